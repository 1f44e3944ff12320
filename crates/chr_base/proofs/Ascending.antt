-- The identities of a base ascend.
use Rattle.std.proofs.Common.{◌≡◌, ◌∙◌, ◌<◌, ◌≤◌, ◌+◌, ◌==◌, ℕ, Bool, List, [], ◌∷◌, Option, Some, None, cond, false, ap, arith, refl, sym, inl, inr, ◌⊎◌}
use Rattle.std.proofs.lemmas.Bool.{cases_lt, eq-eqb, ne_eqb}
use Rattle.chr_semantics.specs.Changes.{Entries, Store}
use Rattle.chr_semantics.specs.Footprint.{Ascends}
use Rattle.chr_semantics.specs.Match.{Row}
use Rattle.chr_semantics.specs.Program.{Atom}
use Rattle.chr_semantics.specs.Search.{atom_of}
use Rattle.chr_semantics.specs.Subst.{Subst}
use Rattle.chr_find.specs.Shown.{AllOver, Rises}
use Rattle.chr_base.specs.Agreement.{Agrees}

-- from an identity on there is none
abbrev AreBelow : ℕ → List Row → Type 0
AreBelow hi rows = (i : ℕ) → hi ≤ i → atom_of rows i ≡ None

first_below : (hi : ℕ) (r : Row) (rows : List Row) → AreBelow hi (r ∷ rows) → r.0 < hi
first_below hi r rows none = by (cases_lt r.0 hi)
  where
    there : ◌≡◌ {A = Option Atom} (Some r.1) None → ⊥
    there e = cc

    by : (r.0 < hi) ⊎ (hi ≤ r.0) → r.0 < hi
    by (inl lt) = lt
    by (inr le) = absurd (there (sym (ap (λ (b : Bool). cond b (Some r.1) (atom_of rows r.0)) (eq-eqb r.0 r.0 refl)) ∙ none r.0 le))

rest_below : (hi : ℕ) (r : Row) (rows : List Row) → AreBelow hi (r ∷ rows) → AreBelow hi rows
rest_below hi r rows none i le =
    let lt = first_below hi r rows none in
    let other : (r.0 == i) ≡ false = ne_eqb r.0 i (λ e. omega (arith, lt, le, e)) in
    sym (ap (λ (b : Bool). cond b (Some r.1) (atom_of rows i)) other) ∙ none i le

over : (n hi : ℕ) (rows : List Row) → n < hi → AllOver n rows → Rises rows → AreBelow hi rows → Ascends (n + 1) rows hi
over n hi [] lt above rises none = omega (arith, lt)
over n hi (r ∷ rows) lt above rises none = (omega (arith, above.0), over r.0 hi rows (first_below hi r rows none) rises.0 rises.1 (rest_below hi r rows none))

ascends : (hi : ℕ) (rows : List Row) → Rises rows → AreBelow hi rows → Ascends 0 rows hi
ascends hi [] rises none = omega arith
ascends hi (r ∷ rows) rises none = (omega arith, over r.0 hi rows (first_below hi r rows none) rises.0 rises.1 (rest_below hi r rows none))

pub ascends_agrees : (m : Store) (h : Entries) (s : Subst) (at : ℕ → Option Atom) (stale : Bool) → Agrees m h s at stale → Ascends 0 m.rows m.next_id
ascends_agrees m h s at stale agrees = ascends m.next_id m.rows agrees.rises agrees.given
