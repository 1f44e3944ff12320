-- What the lists of a store have after a constraint was added or taken out.
use Rattle.std.proofs.Common.{◌≡◌, ◌∙◌, ℕ, ◌+◌, ◌<◌, ◌≤◌, ◌++◌, Bool, true, false, cond, not, ◌==◌, List, [], ◌∷◌, refl, ap, sym, arith, Some, None, true≢false}
use Rattle.std.specs.Prelude.{All, filter}
use Rattle.std.proofs.lemmas.Bool.Decides.{Decides-eqb}
use Rattle.std.proofs.lemmas.List.Elements.{All-cons, filter-append}
use Rattle.chr_semantics.specs.Footprint.{Ascends}
use Rattle.chr_semantics.specs.Match.{Row}
use Rattle.chr_semantics.specs.Program.{Atom}
use Rattle.chr_semantics.specs.Search.{atom_of, ids_of}
use Rattle.chr_semantics.proofs.Lookups.{Ascends-ends, Ascends-filter, atom_above}
use Rattle.chr_store.specs.Looks.{AreListed, AreLooksOf, is_at, is_listed, listed_ids}
use Rattle.chr_store.specs.Rows.{rows_without}
use Rattle.chr_store.specs.declared.lists.Look.{Look}
use Rattle.chr_store.specs.declared.lists.Look.TheVariants.{Symbol, Keyed, Open}
use Rattle.chr_store.specs.declared.lists.Looks.{Looks}
use Rattle.chr_store.proofs.Ascending.{without}
use Rattle.chr_semantics.proofs.TakenLaw.{ids_of-append}

-- the looks of a constraint are those that its row passes
pub same_at : (n : ℕ) (a : Atom) (at : Looks) → AreLooksOf a at → (look : Look) → is_at at look ≡ is_listed look (n, a)
same_at n a at h (Symbol f) = ap (λ (s : ℕ). s == f.0) h.sym
same_at n a at h (Keyed f k) = rw (h.sym, h.key)
same_at n a at h Open = h.variables

one_more : (r : Row) (b : Bool) → ids_of (cond b (r ∷ []) []) ≡ cond b (r.0 ∷ []) []
one_more r true = refl
one_more r false = refl

pub listed_ids-put : (rows : List Row) (r : Row) (look : Look) → listed_ids (rows ++ r ∷ []) look ≡ listed_ids rows look ++ cond (is_listed look r) (r.0 ∷ []) []
listed_ids-put rows r look = ap ids_of (filter-append (is_listed look) rows (r ∷ [])) ∙ (ids_of-append (filter (is_listed look) rows) _ ∙ ap (λ (l : List ℕ). listed_ids rows look ++ l) (one_more r (is_listed look r)))

-- a constraint that was added
pub AreListed-put : (rows : List Row) (n : ℕ) (a : Atom) (at : Looks) (old new : Look → List ℕ) → AreLooksOf a at → AreListed old rows → ((look : Look) → new look ≡ old look ++ cond (is_at at look) (n ∷ []) []) → AreListed new (rows ++ (n, a) ∷ [])
AreListed-put rows n a at old new of h step look = step look ∙ (rw (same_at n a at of look, h look) (sym (listed_ids-put rows (n, a) look)))

-- all identities are below the next one
pub All-below : (lo hi : ℕ) (rows : List Row) → Ascends lo rows hi → All (λ i. i < hi) (ids_of rows)
All-below lo hi [] h = λ k d inside. absurd (omega arith)
All-below lo hi (r ∷ rows) h = let ends : r.0 + 1 ≤ hi = Ascends-ends (r.0 + 1) hi rows h.1 in All-cons (λ i. i < hi) r.0 (ids_of rows) (omega (arith, ends)) (All-below (r.0 + 1) hi rows h.1)

-- and so are those of a list
pub All-listed : (lo hi next : ℕ) (rows : List Row) (look : Look) (ids : List ℕ) → Ascends lo rows hi → hi ≡ next → ids ≡ listed_ids rows look → All (λ i. i < next) ids
All-listed lo hi next rows look ids h is e = rw (e, ← is) (All-below lo hi (filter (is_listed look) rows) (Ascends-filter (is_listed look) lo hi rows h))

without_test : (p : Row → Bool) (n : ℕ) (x : Row) (xs : List Row) (b c : Bool) → (x.0 == n) ≡ b → ids_of (filter p (rows_without n xs)) ≡ without n (ids_of (filter p xs)) → p x ≡ c
    → ids_of (filter p (cond (not b) (x ∷ rows_without n xs) (rows_without n xs))) ≡ without n (ids_of (cond c (x ∷ filter p xs) (filter p xs)))
without_test p n x xs true true is go e = rw is go
without_test p n x xs true false is go e = go
without_test p n x xs false true is go e = rw (e, is) (ap (λ (l : List ℕ). x.0 ∷ l) go)
without_test p n x xs false false is go e = rw e go

ids_without : (p : Row → Bool) (n : ℕ) (rows : List Row) → ids_of (filter p (rows_without n rows)) ≡ without n (ids_of (filter p rows))
ids_without p n [] = refl
ids_without p n (x ∷ xs) = without_test p n x xs (x.0 == n) (p x) refl (ids_without p n xs) refl

-- an identity that no row has
stays_test : (p : Row → Bool) (n : ℕ) (x : Row) (xs : List Row) (b c : Bool) → (x.0 == n) ≡ b → cond b (Some x.1) (atom_of xs n) ≡ None → (atom_of xs n ≡ None → without n (ids_of (filter p xs)) ≡ ids_of (filter p xs)) → p x ≡ c
    → without n (ids_of (cond c (x ∷ filter p xs) (filter p xs))) ≡ ids_of (cond c (x ∷ filter p xs) (filter p xs))
stays_test p n x xs true c is none go e = cc
stays_test p n x xs false true is none go e = rw is (ap (λ (l : List ℕ). x.0 ∷ l) (go none))
stays_test p n x xs false false is none go e = go none

stays : (p : Row → Bool) (n : ℕ) (rows : List Row) → atom_of rows n ≡ None → without n (ids_of (filter p rows)) ≡ ids_of (filter p rows)
stays p n [] none = refl
stays p n (x ∷ xs) none = stays_test p n x xs (x.0 == n) (p x) refl none (stays p n xs) refl

-- an identity whose row is not listed
unlisted_test : (p : Row → Bool) (n : ℕ) (a : Atom) (lo hi : ℕ) (x : Row) (xs : List Row) (b c : Bool) → (x.0 == n) ≡ b → cond b (Some x.1) (atom_of xs n) ≡ Some a → Ascends (x.0 + 1) xs hi → p (n, a) ≡ false
    → (atom_of xs n ≡ Some a → without n (ids_of (filter p xs)) ≡ ids_of (filter p xs)) → p x ≡ c → without n (ids_of (cond c (x ∷ filter p xs) (filter p xs))) ≡ ids_of (cond c (x ∷ filter p xs) (filter p xs))
unlisted_test p n a lo hi x xs true true is at up not_p go e =
    let id : x.0 ≡ n = (Decides-eqb x.0 n).0 is in
    let atom : x.1 ≡ a = cc in
    let same : p x ≡ p (n, a) = ap p (λ i. (id i, atom i)) in
    absurd (true≢false (sym e ∙ (same ∙ not_p)))
unlisted_test p n a lo hi x xs true false is at up not_p go e =
    let id : x.0 ≡ n = (Decides-eqb x.0 n).0 is in
    stays p n xs (atom_above (x.0 + 1) hi n xs (omega (arith, id)) up)
unlisted_test p n a lo hi x xs false true is at up not_p go e = rw is (ap (λ (l : List ℕ). x.0 ∷ l) (go at))
unlisted_test p n a lo hi x xs false false is at up not_p go e = go at

unlisted : (p : Row → Bool) (n : ℕ) (a : Atom) (lo hi : ℕ) (rows : List Row) → Ascends lo rows hi → atom_of rows n ≡ Some a → p (n, a) ≡ false → without n (ids_of (filter p rows)) ≡ ids_of (filter p rows)
unlisted p n a lo hi [] up at not_p = refl
unlisted p n a lo hi (x ∷ xs) up at not_p = unlisted_test p n a lo hi x xs (x.0 == n) (p x) refl at up.1 not_p (λ there. unlisted p n a (x.0 + 1) hi xs up.1 there not_p) refl

taken_test : (n : ℕ) (a : Atom) (lo hi : ℕ) (rows : List Row) (look : Look) (b : Bool) → Ascends lo rows hi → atom_of rows n ≡ Some a → is_listed look (n, a) ≡ b
    → cond b (without n (listed_ids rows look)) (listed_ids rows look) ≡ without n (listed_ids rows look)
taken_test n a lo hi rows look true up at e = refl
taken_test n a lo hi rows look false up at e = sym (unlisted (is_listed look) n a lo hi rows up at e)

-- a constraint that was taken out
pub AreListed-taken : (rows : List Row) (n : ℕ) (a : Atom) (at : Looks) (lo hi : ℕ) (old new : Look → List ℕ) → AreLooksOf a at → Ascends lo rows hi → atom_of rows n ≡ Some a → AreListed old rows
    → ((look : Look) → new look ≡ cond (is_at at look) (without n (old look)) (old look)) → AreListed new (rows_without n rows)
AreListed-taken rows n a at lo hi old new of up there h step look =
    step look ∙ (rw (same_at n a at of look, h look) (taken_test n a lo hi rows look (is_listed look (n, a)) up there refl ∙ sym (ids_without (is_listed look) n rows)))
