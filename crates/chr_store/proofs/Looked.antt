-- The lists of a store, after those of one constraint were written.
use Rattle.std.proofs.Common.{◌≡◌, ◌∙◌, ℕ, zero, suc, ◌<◌, ◌≤◌, ◌&&◌, ◌∷◌, ◌++◌, [], Bool, true, false, List, Option, Some, length, get_or, slice_set, refl, ap, arith}
use Rattle.std.specs.Prelude.{slice_get}
use Rattle.chr_semantics.specs.Keys.{same_keys}
use Rattle.chr_store.specs.KeyView.{keys_view}
use Rattle.chr_store.specs.Looks.{HasRoomAt, ids_keyed, ids_of_key, ids_of_symbol, ids_under, is_at, spare_keyed, spare_of_symbol, spare_under}
use Rattle.chr_store.specs.declared.key.Key.{Key}
use Rattle.chr_store.specs.declared.lists.Lists.{Lists}
use Rattle.chr_store.specs.declared.lists.Look.{Look}
use Rattle.chr_store.specs.declared.lists.Look.TheVariants.{Symbol, Keyed, Open}
use Rattle.chr_store.specs.declared.lists.Looks.{Looks}
use Rattle.chr_store.specs.declared.lists.OfSymbol.{OfSymbol}
use Rattle.chr_store.proofs.Places.{at_each, at_filled, at_missing, slice_get-set_same}

-- what holds of the lists that were written and of those that stay holds of each
pub look_each : {A : Type 0} (P : Bool → List ℕ → List ℕ → Type 0) (before after : Lists A) (at : Looks) (old new : OfSymbol A) → at.sym.0 < length before.by_symbol.items → old ≡ get_or before.by_symbol.items at.sym.0 old
    → after.by_symbol.items ≡ slice_set before.by_symbol.items at.sym.0 new → P true old.all.ids new.all.ids → ((k : Option Key) → P (same_keys (keys_view k) (keys_view at.key)) (ids_keyed old k) (ids_keyed new k))
    → P at.has_variables before.«open».ids after.«open».ids → ((ids : List ℕ) → P false ids ids) → (look : Look) → P (is_at at look) (ids_under before look) (ids_under after look)
look_each P before after at old new inside is written all keyed opened stays (Symbol f) =
    rw written (at_each (λ b x y. P b (ids_of_symbol x) (ids_of_symbol y)) before.by_symbol.items at.sym.0 f.0 old new inside is all (λ o. stays (ids_of_symbol o)))
look_each P before after at old new inside is written all keyed opened stays (Keyed f k) =
    rw written (at_each (λ b x y. P (b && same_keys (keys_view k) (keys_view at.key)) (ids_of_key k x) (ids_of_key k y)) before.by_symbol.items at.sym.0 f.0 old new inside is (keyed k) (λ o. stays (ids_of_key k o)))
look_each P before after at old new inside is written all keyed opened stays Open = opened

-- the same where the symbol has no lists
pub look_missing : {A : Type 0} (P : Bool → List ℕ → List ℕ → Type 0) (before after : Lists A) (at : Looks) → length before.by_symbol.items ≤ at.sym.0 → after.by_symbol.items ≡ before.by_symbol.items → ((b : Bool) → P b [] [])
    → P at.has_variables before.«open».ids after.«open».ids → ((ids : List ℕ) → P false ids ids) → (look : Look) → P (is_at at look) (ids_under before look) (ids_under after look)
look_missing P before after at past same empty opened stays (Symbol f) =
    rw same (at_missing (λ b x y. P b (ids_of_symbol x) (ids_of_symbol y)) before.by_symbol.items at.sym.0 f.0 past (empty true) (λ o. stays (ids_of_symbol o)))
look_missing P before after at past same empty opened stays (Keyed f k) =
    rw same (at_missing (λ b x y. P (b && same_keys (keys_view k) (keys_view at.key)) (ids_of_key k x) (ids_of_key k y)) before.by_symbol.items at.sym.0 f.0 past (empty (same_keys (keys_view k) (keys_view at.key))) (λ o. stays (ids_of_key k o)))
look_missing P before after at past same empty opened stays Open = opened

-- lists with the same entries are the same
pub look_same : {A : Type 0} (a b : Lists A) → a.by_symbol.items ≡ b.by_symbol.items → a.«open».ids ≡ b.«open».ids → (look : Look) → ids_under a look ≡ ids_under b look
look_same a b same opened (Symbol f) = ap (λ xs. ids_of_symbol (slice_get xs f.0)) same
look_same a b same opened (Keyed f k) = ap (λ xs. ids_of_key k (slice_get xs f.0)) same
look_same a b same opened Open = opened

-- lists of one symbol more, in which nothing is, change nothing
pub look_more : {A : Type 0} (before after : Lists A) (new : OfSymbol A) → after.by_symbol.items ≡ before.by_symbol.items ++ new ∷ [] → new.all.ids ≡ [] → ((k : Option Key) → ids_keyed new k ≡ []) → after.«open».ids ≡ before.«open».ids
    → (look : Look) → ids_under after look ≡ ids_under before look
look_more before after new more all keyed opened (Symbol f) = rw more (at_filled (λ x y. ids_of_symbol y ≡ ids_of_symbol x) before.by_symbol.items 1 f.0 new (λ o. refl) all)
look_more before after new more all keyed opened (Keyed f k) = rw more (at_filled (λ x y. ids_of_key k y ≡ ids_of_key k x) before.by_symbol.items 1 f.0 new (λ o. refl) (keyed k))
look_more before after new more all keyed opened Open = opened

-- a symbol with room for one more has lists
pub has_lists : {A : Type 0} (xs : List (OfSymbol A)) (n : ℕ) → 0 < spare_of_symbol (slice_get xs n) → n < length xs
has_lists [] n room = absurd (omega (arith, room))
has_lists (x ∷ xs) zero room = omega arith
has_lists (x ∷ xs) (suc n) room = omega (arith, has_lists xs n room)

-- one more fits where it fits in the lists that were written, and in the open one
pub room_at : {A : Type 0} (before after : Lists A) (at : Looks) (new : OfSymbol A) → at.sym.0 < length before.by_symbol.items → after.by_symbol.items ≡ slice_set before.by_symbol.items at.sym.0 new → 0 < new.all.spare → 0 < spare_keyed new at.key
    → (at.has_variables ≡ true → 0 < after.«open».spare) → HasRoomAt (spare_under after) at
room_at before after at new inside written all keyed opened =
    let there : slice_get after.by_symbol.items at.sym.0 ≡ Some new = ap (λ xs. slice_get xs at.sym.0) written ∙ slice_get-set_same before.by_symbol.items at.sym.0 at.sym.0 new inside refl in
    record { symbol = rw there all; key = rw there keyed; variables = opened }
