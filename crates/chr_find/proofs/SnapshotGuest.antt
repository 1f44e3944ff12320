-- The guest of a snapshot among its constraints.
use Rattle.std.proofs.Common.{◌≡◌, ◌∙◌, ◌==◌, ◌<◌, ◌≤◌, ℕ, Bool, true, false, cond, List, [], ◌∷◌, ◌++◌, ap, arith, refl, sym, true≢false, ◌⊎◌, inl, inr}
use Rattle.std.specs.Prelude.{Option, Some, None}
use Rattle.std.proofs.lemmas.Bool.{cases_order, eq-eqb}
use Rattle.std.proofs.lemmas.Bool.Decides.{Decides-eqb}
use Rattle.chr_semantics.proofs.Tests.{eqb_sym}
use Rattle.chr_semantics.specs.Match as semantics
use Rattle.chr_semantics.specs.Program.{Atom}
use Rattle.chr_semantics.specs.Search.{atom_of}
use Rattle.chr_semantics.specs.Snapshot.{rows_seen, with_last}
use Rattle.chr_semantics.specs.Snapshot as snapshots
use Rattle.chr_find.specs.Shown.{AllUnder, Rises}
use Rattle.chr_find.proofs.Made.{rises_last}

-- each row is one of those that are looked up, or an earlier one has its identity
under_next : (n : ℕ) (rows : List semantics.Row) → Rises rows → ((i : ℕ) → n ≤ i → atom_of rows i ≡ None) → AllUnder n rows
under_next n [] up free = tt
under_next n (c ∷ rows) up free = (below (cases_order c.0 n), under_next n rows up.1 (λ i le. rest i le (c.0 == i) refl))
  where
    none_some : (a : Atom) → ◌≡◌ {A = Option Atom} None (Some a) → ⊥
    none_some a e = cc

    never : n ≤ c.0 → ⊥
    never le = none_some c.1 (sym (free c.0 le) ∙ ap (λ (b : Bool). cond b (Some c.1) (atom_of rows c.0)) (eq-eqb c.0 c.0 refl))

    below : (c.0 ≡ n) ⊎ ((c.0 < n) ⊎ (n < c.0)) → c.0 < n
    below (inl e) = absurd (never (omega (arith, e)))
    below (inr (inl lt)) = lt
    below (inr (inr gt)) = absurd (never (omega (arith, gt)))

    rest : (i : ℕ) → n ≤ i → (b : Bool) → (c.0 == i) ≡ b → atom_of rows i ≡ None
    rest i le true e = absurd (none_some c.1 (sym (free i le) ∙ ap (λ (b : Bool). cond b (Some c.1) (atom_of rows i)) e))
    rest i le false e = sym (ap (λ (b : Bool). cond b (Some c.1) (atom_of rows i)) e) ∙ free i le

looked_last : (rows : List semantics.Row) (n i : ℕ) (a : Atom) → atom_of rows n ≡ None → atom_of (rows ++ (n, a) ∷ []) i ≡ cond (i == n) (Some a) (atom_of rows i)
looked_last [] n i a e = ap (λ (b : Bool). cond b (Some a) None) (eqb_sym n i)
looked_last (c ∷ rows) n i a e = by_test (c.0 == n) refl e (looked_last rows n i a)
  where
    none_some : (a : Atom) → ◌≡◌ {A = Option Atom} None (Some a) → ⊥
    none_some a e = cc

    in_place : (b d : Bool) (x : Atom) (o : Option Atom) → (b ≡ true → d ≡ false) → cond b (Some x) (cond d (Some a) o) ≡ cond d (Some a) (cond b (Some x) o)
    in_place true true x o h = absurd (true≢false (h refl))
    in_place true false x o h = refl
    in_place false d x o h = refl

    by_test : (b : Bool) → (c.0 == n) ≡ b → cond b (Some c.1) (atom_of rows n) ≡ None → (atom_of rows n ≡ None → atom_of (rows ++ (n, a) ∷ []) i ≡ cond (i == n) (Some a) (atom_of rows i))
        → cond (c.0 == i) (Some c.1) (atom_of (rows ++ (n, a) ∷ []) i) ≡ cond (i == n) (Some a) (cond (c.0 == i) (Some c.1) (atom_of rows i))
    by_test true is e go = absurd (none_some c.1 (sym e))
    by_test false is e go =
        ap (λ (o : Option Atom). cond (c.0 == i) (Some c.1) o) (go e)
        ∙ in_place (c.0 == i) (i == n) c.1 (atom_of rows i) (λ f. ap (λ (m : ℕ). m == n) (sym ((Decides-eqb c.0 i).0 f)) ∙ is)

-- with the guest they are the table's constraints and the guest
pub rises_guest : (n : ℕ) (a : Atom) (rows : List semantics.Row) → Rises rows → ((i : ℕ) → n ≤ i → atom_of rows i ≡ None) → Rises (rows ++ (n, a) ∷ [])
rises_guest n a rows up free = rises_last rows (n, a) up (under_next n rows up free)

pub looked_guest : (rows : List semantics.Row) (n i : ℕ) (a : Atom) → atom_of rows n ≡ None → atom_of (rows ++ (n, a) ∷ []) i ≡ cond (i == n) (Some a) (atom_of rows i)
looked_guest = looked_last

pub seen_guest : (q : snapshots.Snapshot) (i : ℕ) (a : Atom) → i ≡ q.next_id → q.guest ≡ Some a → rows_seen q i ≡ q.rows ++ (q.next_id, a) ∷ []
seen_guest q i a at e = ap (λ (b : Bool). cond b (with_last q.rows q.next_id q.guest) q.rows) (eq-eqb i q.next_id at) ∙ ap (with_last q.rows q.next_id) e

-- no other constraint is the guest
pub seen_other : (q : snapshots.Snapshot) (i : ℕ) → (i == q.next_id) ≡ false → rows_seen q i ≡ q.rows
seen_other q i e = ap (λ (b : Bool). cond b (with_last q.rows q.next_id q.guest) q.rows) e
