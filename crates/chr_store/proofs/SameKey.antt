-- A symbol's lists by key, after the list of one key was written.
use Rattle.std.proofs.Common.{◌≡◌, ◌∙◌, ℕ, Bool, true, false, cond, List, [], Option, Some, None, ap, sym, refl}
use Rattle.std.proofs.lemmas.Cmp.{int_eq_equiv}
use Rattle.std.specs.HashMap.Eq.{lookup_congr}
use Rattle.indexmap.specs.IndexMap.{IndexMap, get}
use Rattle.chr_semantics.specs.Keys as semantics
use Rattle.chr_semantics.specs.Keys.{same_keys}
use Rattle.chr_semantics.proofs.Tests.{eqb_sym}
use Rattle.chr_store.specs.IdsValue.{IdsValue}
use Rattle.chr_store.specs.KeyView.{key_view, keys_view}
use Rattle.chr_store.specs.Looks.{ids_in, ids_keyed, same_key}
use Rattle.chr_store.specs.contracts.key.KeyEq.TheImpl.Laws.{laws-law}
use Rattle.chr_store.specs.declared.key.Key.{Key}
use Rattle.chr_store.specs.declared.key.Key.TheVariants.{Int, Name}
use Rattle.chr_store.specs.declared.lists.OfSymbol.{OfSymbol}

-- keys are the same where the definitions say so, in either order
same_turned : (k other : Key) → same_key k other ≡ semantics.same_key (key_view other) (key_view k)
same_turned (Int z) (Int w) = int_eq_equiv.symm z w
same_turned (Int z) (Name g) = refl
same_turned (Name f) (Int w) = refl
same_turned (Name f) (Name g) = eqb_sym f.0 g.0

module _ {S : Type 0} where
  -- the list of a key, empty where there is none
  abbrev pub list_of : IndexMap Key IdsValue S → Key → List ℕ
  list_of lists k = ids_in (get same_key lists k)

  -- keys that are the same have one list
  pub list_of-same : (lists : IndexMap Key IdsValue S) (a b : Key) → same_key a b ≡ true → list_of lists a ≡ list_of lists b
  list_of-same lists a b e = ap ids_in (lookup_congr same_key laws-law.congr lists.entries a b e)

  -- a list that is empty may be let go
  let_go_same : (old new : IndexMap Key IdsValue S) (k : Key) → list_of old k ≡ [] → ((other : Key) → get same_key new other ≡ cond (same_key k other) None (get same_key old other)) → (other : Key) → list_of new other ≡ list_of old other
  let_go_same old new k empty step other = ap ids_in (step other) ∙ by_test (same_key k other) refl
    where
      by_test : (b : Bool) → same_key k other ≡ b → ids_in (cond b None (get same_key old other)) ≡ list_of old other
      by_test true e = sym empty ∙ list_of-same old k other e
      by_test false e = refl

  -- what holds of the list that was written and of those that stay holds of each
  list_each : (P : Bool → List ℕ → List ℕ → Type 0) (old new : IndexMap Key IdsValue S) (k : Key) (w : IdsValue) → P true (list_of old k) w.ids → ((ids : List ℕ) → P false ids ids)
      → ((other : Key) → get same_key new other ≡ cond (same_key k other) (Some w) (get same_key old other)) → (other : Key) → P (semantics.same_key (key_view other) (key_view k)) (list_of old other) (list_of new other)
  list_each P old new k w written stays step other = rw (← same_turned k other, step other) (by_test (same_key k other) refl)
    where
      by_test : (b : Bool) → same_key k other ≡ b → P b (list_of old other) (ids_in (cond b (Some w) (get same_key old other)))
      by_test true e = rw (← list_of-same old k other e) written
      by_test false e = stays (list_of old other)

-- what holds of none and of each key holds of all
pub each_key : (P : Option Key → Type 0) → P None → ((k : Key) → P (Some k)) → (k : Option Key) → P k
each_key P none some None = none
each_key P none some (Some k) = some k

-- the same with the list of those that have no key
pub keyed_each : {A : Type 0} (P : Bool → List ℕ → List ℕ → Type 0) (old new : OfSymbol A) (k : Key) (w : IdsValue) → new.keyless.ids ≡ old.keyless.ids → P true (list_of old.keyed k) w.ids → ((ids : List ℕ) → P false ids ids)
    → ((other : Key) → get same_key new.keyed other ≡ cond (same_key k other) (Some w) (get same_key old.keyed other)) → (other : Option Key) → P (same_keys (keys_view other) (Some (key_view k))) (ids_keyed old other) (ids_keyed new other)
keyed_each P old new k w same written stays step None = rw same (stays old.keyless.ids)
keyed_each P old new k w same written stays step (Some other) = list_each P old.keyed new.keyed k w written stays step other

-- and a list that is empty may be let go beside it
pub keyed_let_go : {A : Type 0} (old new : OfSymbol A) (k : Key) → new.keyless.ids ≡ old.keyless.ids → list_of old.keyed k ≡ [] → ((other : Key) → get same_key new.keyed other ≡ cond (same_key k other) None (get same_key old.keyed other))
    → (other : Option Key) → ids_keyed new other ≡ ids_keyed old other
keyed_let_go old new k same empty step None = same
keyed_let_go old new k same empty step (Some other) = let_go_same old.keyed new.keyed k empty step other
