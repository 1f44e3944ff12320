-- What the search for an active constraint comes to.
use Rattle.std.proofs.Common.{◌≡◌, ◌∙◌, ℕ, true, false, List, Option, Some, None, ap, arith, refl, sym}
use Rattle.std.specs.Prelude.{is_some, option_map, slice_get}
use Rattle.chr_semantics.specs.Bounds.{AreBounded, IsBounded}
use Rattle.chr_semantics.specs.Footprint.{Ascends}
use Rattle.chr_semantics.specs.Match.{Row}
use Rattle.chr_semantics.specs.Program.{Atom, Program, Rule, occurrence}
use Rattle.chr_semantics.specs.Search.{Found, atom_of, first_tuple, found_at, found_for, found_with, ids_found, ids_of, no_firing}
use Rattle.chr_semantics.proofs.Lists.{All-got}
use Rattle.chr_semantics.proofs.OccurrenceRule.{occurrence_rule}
use Rattle.chr_rules.specs.Index.{pair_of, pair_view}
use Rattle.chr_rules.specs.RuleView.{rule_view}
use Rattle.chr_rules.specs.declared.index.Occurrence.{Occurrence}
use Rattle.chr_find.specs.declared.active.Active.{Active}
use Rattle.chr_find.proofs.FoundLaw.{occurrence_is}
use Rattle.chr_base.specs.Agreement.{is_alive}
use Rattle.chr_base.specs.Model.{rows_of}
use Rattle.chr_base.specs.Searching.{FindsFirst}
use Rattle.chr_base.proofs.FirstFound.{first_rows, lives_resolved}
use Rattle.chr_base.specs.Searching.{occurrence_of}
use Rattle.chr_machine.specs.Firing.{IsAt, IsFiring, atom_at, search_in}
use Rattle.chr_machine.specs.Model.{CourseModel}
use Rattle.chr_machine.specs.declared.turning.ActiveConstraint.{ActiveConstraint}

some_rule : (x y : Rule) → ◌≡◌ {A = Option Rule} (Some x) (Some y) → x ≡ y
some_rule x y e = cc

-- it is that of the program's index
occurrence_found : {A : Type 0} (p : Program) (f j : ℕ) (c : Occurrence) (s : Active A) → Some (pair_view c) ≡ option_map pair_of (occurrence p f j) → slice_get p c.rule ≡ Some (rule_view s.rule.now) → s.number ≡ c.rule → s.place ≡ c.place
    → occurrence p f j ≡ Some (occurrence_of s)
occurrence_found p f j c s e rule number place =
    let w = occurrence_is p f j c e in
    let same : w.o.rule ≡ rule_view s.rule.now = some_rule w.o.rule (rule_view s.rule.now) (sym (occurrence_rule p f j w.o w.is) ∙ (ap (slice_get p) w.number ∙ rule)) in
    let number_is : w.o.number ≡ s.number = w.number ∙ sym number in
    let place_is : w.o.place ≡ s.place = w.place ∙ sym place in
    w.is ∙ (λ k. Some (record { number = number_is k; rule = same k; place = place_is k }))

-- the program is that of the run
pub occurs_there : {A : Type 0} (p q : Program) (f j : ℕ) → p ≡ q → (c : Occurrence) (s : Active A) → Some (pair_view c) ≡ option_map pair_of (occurrence p f j) → slice_get p c.rule ≡ Some (rule_view s.rule.now) → s.number ≡ c.rule → s.place ≡ c.place
    → occurrence q f j ≡ Some (occurrence_of s)
occurs_there p q f j is c s e rule number place = ap (λ (q : Program). occurrence q f j) (sym is) ∙ occurrence_found p f j c s e rule number place

-- an active constraint has its occurrence in the program
pub stands : {A : Type 0} (m : CourseModel) (x : ActiveConstraint A) (p : Program) → p ≡ m.rules → (c : Occurrence) (s : Active A) → Some (pair_view c) ≡ option_map pair_of (occurrence p x.sym.0 x.occurrence) → slice_get p c.rule ≡ Some (rule_view s.rule.now) → s.number ≡ c.rule → s.place ≡ c.place → s.id.0 ≡ x.id.0
    → IsAt m s x
stands m x p is c s e rule number place id = record {
  id = id;
  occurs = occurs_there p m.rules x.sym.0 x.occurrence is c s e rule number place;
}

module _ {A : Type 0} (m : CourseModel) (s : Active A) (x : ActiveConstraint A) (at : IsAt m s x) where
  abbrev rule_at : Rule
  rule_at = rule_view s.rule.now

  abbrev pub searched : Found
  searched = search_in m s.id.0 x.occurrence (atom_at x)

  -- by the identity on the stack
  pub searched_is : searched ≡ search_in m x.id.0 x.occurrence (atom_at x)
  searched_is = ap (λ (i : ℕ). search_in m i x.occurrence (atom_at x)) at.id

  for_dead : atom_of (rows_of m.base) s.id.0 ≡ None → searched ≡ no_firing
  for_dead none = ap (found_at (rows_of m.base) m.base.entries.list s.id.0) at.occurs ∙ ap (found_for (rows_of m.base) m.base.entries.list s.number rule_at s.place s.id.0) none

  for_living : (b : Atom) → atom_of (rows_of m.base) s.id.0 ≡ Some b → searched ≡ found_with s.number rule_at s.place (first_tuple (rows_of m.base) m.base.entries.list s.number rule_at s.place (s.id.0, b))
  for_living b is = ap (found_at (rows_of m.base) m.base.entries.list s.id.0) at.occurs ∙ ap (found_for (rows_of m.base) m.base.entries.list s.number rule_at s.place s.id.0) is

  -- a constraint that does not live finds nothing
  pub dead_found : is_some (atom_of m.base.store.rows s.id.0) ≡ false → None ≡ ids_found searched
  dead_found dead = sym (ap ids_found (for_dead (gone (atom_of (rows_of m.base) s.id.0) (lives_resolved m.base s.id.0 ∙ dead))))
    where
      gone : (o : Option Atom) → is_some o ≡ false → o ≡ None
      gone None e = refl
      gone (Some b) e = cc

  -- what the search found is what the definitions find, where the constraint lives
  pub own_found : is_some (atom_of m.base.store.rows s.id.0) ≡ true → (ids : Option (List ℕ)) → FindsFirst m.base s ids → ids ≡ ids_found searched
  own_found lives ids found = by_case (atom_of (rows_of m.base) s.id.0) refl
    where
      by_tuple : (o : Option (List Row)) → option_map ids_of o ≡ ids_found (found_with s.number rule_at s.place o)
      by_tuple None = refl
      by_tuple (Some t) = refl

      by_case : (o : Option Atom) → atom_of (rows_of m.base) s.id.0 ≡ o → ids ≡ ids_found searched
      by_case None e = let there = lives_resolved m.base s.id.0 in let none = ap is_some e in cc
      by_case (Some b) e = found b e ∙ (by_tuple (first_tuple (rows_of m.base) m.base.entries.list s.number rule_at s.place (s.id.0, b)) ∙ ap ids_found (sym (for_living b e)))

  -- no tuple can fire
  pub nothing_found : None ≡ ids_found searched → searched ≡ no_firing
  nothing_found none = by_case (atom_of (rows_of m.base) s.id.0) refl
    where
      by_tuple : (o : Option (List Row)) → None ≡ ids_found (found_with s.number rule_at s.place o) → found_with s.number rule_at s.place o ≡ no_firing
      by_tuple None e = refl
      by_tuple (Some t) e = cc

      by_case : (o : Option Atom) → atom_of (rows_of m.base) s.id.0 ≡ o → searched ≡ no_firing
      by_case None e = for_dead e
      by_case (Some b) e =
          for_living b e ∙ by_tuple (first_tuple (rows_of m.base) m.base.entries.list s.number rule_at s.place (s.id.0, b)) (none ∙ ap ids_found (for_living b e))

  -- the constraints that were found fire
  pub firing_found : Ascends 0 m.base.store.rows m.base.store.next_id → AreBounded m.rules → (ids : List ℕ) → Some ids ≡ ids_found searched → IsFiring m s x.occurrence (atom_at x) ids
  firing_found ascends all_bounded ids is =
      let known = first_rows m.base s ids ascends lives first in
      record {
        rows = known.rows;
        matched = known.matched;
        found = for_living known.own known.living ∙ ap (found_with s.number rule_at s.place) known.first;
        ids_are = known.ids_are;
        fit = known.fit;
        standing = known.standing;
        few = omega (arith, known.one_each, bounded.few_heads);
        is_new = known.is_new;
        bounded = bounded;
        of_program = of_program;
        lives = lives;
        first = first;
      }
    where
      of_program : slice_get m.rules s.number ≡ Some rule_at
      of_program = occurrence_rule m.rules x.sym.0 x.occurrence (occurrence_of s) at.occurs

      bounded : IsBounded rule_at
      bounded = All-got IsBounded m.rules s.number rule_at of_program all_bounded

      lives : is_alive m.base.store s.id.0 ≡ true
      lives = by_case (atom_of (rows_of m.base) s.id.0) refl
        where
          by_case : (o : Option Atom) → atom_of (rows_of m.base) s.id.0 ≡ o → is_alive m.base.store s.id.0 ≡ true
          by_case None e = let gone : Some ids ≡ None = is ∙ ap ids_found (for_dead e) in cc
          by_case (Some b) e = sym (lives_resolved m.base s.id.0) ∙ ap is_some e

      by_tuple : (o : Option (List Row)) → ids_found (found_with s.number rule_at s.place o) ≡ option_map ids_of o
      by_tuple None = refl
      by_tuple (Some t) = refl

      first : FindsFirst m.base s (Some ids)
      first own living = is ∙ (ap ids_found (for_living own living) ∙ by_tuple (first_tuple (rows_of m.base) m.base.entries.list s.number rule_at s.place (s.id.0, own)))
