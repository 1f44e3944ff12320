-- How many lists a search tries, by the top of the stack and by the occurrence there.
use Rattle.std.proofs.Common.{◌≡◌, ◌∙◌, ℕ, List, [], ◌∷◌, Option, None, Some, ap, option_map, refl, sym}
use Rattle.chr_semantics.specs.Match.{Row}
use Rattle.chr_semantics.specs.Profile.{Count, counted_at, counted_of, counted_on_top}
use Rattle.chr_semantics.specs.Program as program
use Rattle.chr_semantics.specs.Program.{Program, occurrence}
use Rattle.chr_semantics.specs.Search.{History, atom_of}
use Rattle.chr_semantics.specs.State.{Element, State, active, goal, known}
use Rattle.chr_semantics.specs.Trail.{partial_lists}
use Rattle.chr_semantics.specs.Tries.{tried_tuples}
use Rattle.chr_rules.specs.Index.{pair_of}
use Rattle.chr_base.specs.Searching.{occurrence_of}
use Rattle.chr_find.specs.TriedView.{AreTried}
use Rattle.chr_find.specs.declared.active.Active.{Active}
use Rattle.chr_find.specs.declared.tried.Tried.{Tried}
use Rattle.chr_machine.specs.Trying.{counted_by, searching}

-- by the constraint that is active on top
by_top : (f : Count) (p : Program) (s : State) (es : List Element) → counted_by f p s (searching es) ≡ counted_on_top f p s es
by_top f p s [] = refl
by_top f p s (goal g ∷ es) = refl
by_top f p s (known i a ∷ es) = refl
by_top f p s (active i j a ∷ es) = refl

pub tried_by_top : (p : Program) (s : State) (es : List Element) (tried : Tried) → AreTried (λ f. counted_by f p s (searching es)) tried → AreTried (λ f. counted_on_top f p s es) tried
tried_by_top p s es tried t = (t.0 ∙ by_top tried_tuples p s es, t.1 ∙ by_top partial_lists p s es)

module _ (rows : List Row) (h : History) (i : ℕ) (o : Option program.Occurrence) where
  counted_there : {A : Type 0} (f : Count) (s : Active A) (n : ℕ) → o ≡ Some (occurrence_of s) → s.id.0 ≡ i → n ≡ counted_of f rows h s.id.0 (occurrence_of s) (atom_of rows s.id.0) → n ≡ counted_at f rows h i o
  counted_there f s n occurs id e = e ∙ (λ k. counted_of f rows h (id k) (occurrence_of s) (atom_of rows (id k))) ∙ sym (ap (counted_at f rows h i) occurs)

  -- at the occurrence where the constraint is active
  pub at_occurrence : {A : Type 0} (s : Active A) (tried : Tried) → o ≡ Some (occurrence_of s) → s.id.0 ≡ i → AreTried (λ f. counted_of f rows h s.id.0 (occurrence_of s) (atom_of rows s.id.0)) tried → AreTried (λ f. counted_at f rows h i o) tried
  at_occurrence s tried occurs id t = (counted_there tried_tuples s tried.lists occurs id t.0, counted_there partial_lists s tried.partial occurs id t.1)

  -- where there is none
  pub at_none : {X : Type 0} (view : program.Occurrence → X) (tried : Tried) → tried.lists ≡ 0 → tried.partial ≡ 0 → None ≡ option_map view o → AreTried (λ f. counted_at f rows h i o) tried
  at_none view tried lists partial e = (lists ∙ none_at tried_tuples, partial ∙ none_at partial_lists)
    where
      none : (o : Option program.Occurrence) → None ≡ option_map view o → o ≡ None
      none None e = refl
      none (Some x) e = cc

      none_at : (f : Count) → 0 ≡ counted_at f rows h i o
      none_at f = sym (ap (counted_at f rows h i) (none o e))
