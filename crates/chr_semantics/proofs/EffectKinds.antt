-- What a transition of a kind changes.
use Rattle.std.proofs.Common.{◌≡◌, ◌∙◌, ◌||◌, ℕ, ℤ, ◌+◌, Result, Ok, Err, Bool, true, false, true≢false, cond, List, [], ◌∷◌, ◌++◌, Option, Some, None, ap, nat_lt, refl, subst, sym}
use Rattle.chr_semantics.specs.Match.{Row}
use Rattle.chr_semantics.specs.Profile.{Kind, activate, default, drop, is_kind, kind_next, kind_of_goal, kind_of_search, kind_on_top, propagate, rank, reactivate, simplify, solve}
use Rattle.std.specs.Prelude.{slice_get}
use Rattle.chr_semantics.proofs.OccurrenceRule.{occurrence_rule}
use Rattle.chr_semantics.specs.Guard.{comparison_holds}
use Rattle.chr_semantics.specs.Mgu.{mgu}
use Rattle.chr_semantics.specs.Subst.{Subst, apply}
use Rattle.chr_semantics.specs.Tree.{Tree, int}
use Rattle.chr_semantics.specs.Value.{Fault, value}
use Rattle.chr_semantics.specs.Program.{Atom, Comparison, Goal, Occurrence, Program, Rule, occurrence, constraint, tell, evaluate, compare, fail}
use Rattle.chr_semantics.specs.Effect.{AreGiven, Effect, binds, ends, is_held, woken_ids, IsEffect, IsGoalEffect, IsTold, IsTopEffect, enters, fires, found_effect, leaves, passes, wakes}
use Rattle.chr_semantics.specs.Search.{Found, History, atom_of, firing, first_tuple, found_at, found_for, found_with, ids_of, no_firing, no_occurrence}
use Rattle.chr_semantics.specs.State.{Element, State, Status, active, done, failed, faulted, goal, known, rows, running, with_stack}
use Rattle.chr_semantics.specs.Step as steps
use Rattle.chr_semantics.specs.Step.{bind_step, body_of, compare_step, evaluate_step, fire_step, is_running, search_at, search_step, step, step_at, step_top, with_status, woken_elements}

-- a kind is that of a transition
some_kind : (b : Bool) (o : Option Kind) (k : Kind) → cond b o None ≡ Some k → (b ≡ true) × (o ≡ Some k)
some_kind true o k e = (refl, e)
some_kind false o k e = cc

runs : (w : Status) → is_running w ≡ true → w ≡ running
runs running e = refl
runs done e = cc
runs failed e = cc
runs (faulted f) e = cc

abbrev Same : Kind → Kind → Type 0
Same k l = ◌≡◌ {A = Option Kind} (Some k) (Some l)

-- the kinds of a firing, of a search, and of a goal
abbrev is_of_firing : Kind → Bool
is_of_firing k = is_kind propagate (Some k) || is_kind simplify (Some k)

abbrev is_of_search : Kind → Bool
is_of_search k = is_of_firing k || is_kind drop (Some k) || is_kind default (Some k)

abbrev is_of_goal : Kind → Bool
is_of_goal k = is_kind activate (Some k) || is_kind solve (Some k)

module _ (p : Program) (s : State) where
  kind_parts : (k : Kind) → kind_next p s ≡ Some k → (s.status ≡ running) × (kind_on_top p s s.stack ≡ Some k)
  kind_parts k e = let parts = some_kind (is_running s.status) (kind_on_top p s s.stack) k e in (runs s.status parts.0, parts.1)

  -- of which kind a search is, and a goal
  fired_kind : (b : Bool) (k : Kind) → Same (cond b propagate simplify) k → (is_of_search k ≡ true) × (is_of_firing k ≡ true)
  fired_kind true k e = let same : propagate ≡ k = cc in (ap is_of_search (sym same), ap is_of_firing (sym same))
  fired_kind false k e = let same : simplify ≡ k = cc in (ap is_of_search (sym same), ap is_of_firing (sym same))

  found_kind : (f : Found) (k : Kind) → Same (kind_of_search f) k → is_of_search k ≡ true
  found_kind no_occurrence k e = let same : drop ≡ k = cc in ap is_of_search (sym same)
  found_kind no_firing k e = let same : default ≡ k = cc in ap is_of_search (sym same)
  found_kind (firing r rule place t) k e = (fired_kind (nat_lt place rule.kept) k e).0

  goal_kind : (g : Goal) (k : Kind) → Same (kind_of_goal g) k → is_of_goal k ≡ true
  goal_kind (constraint a) k e = let same : activate ≡ k = cc in ap is_of_goal (sym same)
  goal_kind (tell t u) k e = let same : solve ≡ k = cc in ap is_of_goal (sym same)
  goal_kind (evaluate x t) k e = let same : solve ≡ k = cc in ap is_of_goal (sym same)
  goal_kind (compare o t u) k e = let same : solve ≡ k = cc in ap is_of_goal (sym same)
  goal_kind fail k e = let same : solve ≡ k = cc in ap is_of_goal (sym same)

  found_drops : (f : Found) → Same (kind_of_search f) drop → found_effect s f ≡ leaves
  found_drops no_occurrence e = refl
  found_drops no_firing e = cc
  found_drops (firing r rule place t) e = absurd (true≢false (sym (fired_kind (nat_lt place rule.kept) drop e).1))

  found_defaults : (f : Found) → Same (kind_of_search f) default → found_effect s f ≡ passes
  found_defaults no_occurrence e = cc
  found_defaults no_firing e = refl
  found_defaults (firing r rule place t) e = absurd (true≢false (sym (fired_kind (nat_lt place rule.kept) default e).1))

  enters_top : (es : List Element) → kind_on_top p s es ≡ Some activate → IsTopEffect p s es enters
  enters_top [] e = cc
  enters_top (goal (constraint a) ∷ rest) e = refl
  enters_top (goal (tell t u) ∷ rest) e = cc
  enters_top (goal (evaluate x t) ∷ rest) e = cc
  enters_top (goal (compare o t u) ∷ rest) e = cc
  enters_top (goal fail ∷ rest) e = cc
  enters_top (known i a ∷ rest) e = cc
  enters_top (active i j a ∷ rest) e = absurd (true≢false (sym (found_kind (search_at p s i j a) activate e)))

  wakes_top : (es : List Element) → kind_on_top p s es ≡ Some reactivate → IsTopEffect p s es wakes
  wakes_top [] e = cc
  wakes_top (goal g ∷ rest) e = absurd (true≢false (sym (goal_kind g reactivate e)))
  wakes_top (known i a ∷ rest) e = refl
  wakes_top (active i j a ∷ rest) e = absurd (true≢false (sym (found_kind (search_at p s i j a) reactivate e)))

  leaves_top : (es : List Element) → kind_on_top p s es ≡ Some drop → IsTopEffect p s es leaves
  leaves_top [] e = cc
  leaves_top (goal g ∷ rest) e = absurd (true≢false (sym (goal_kind g drop e)))
  leaves_top (known i a ∷ rest) e = cc
  leaves_top (active i j a ∷ rest) e = sym (found_drops (search_at p s i j a) e)

  passes_top : (es : List Element) → kind_on_top p s es ≡ Some default → IsTopEffect p s es passes
  passes_top [] e = cc
  passes_top (goal g ∷ rest) e = absurd (true≢false (sym (goal_kind g default e)))
  passes_top (known i a ∷ rest) e = cc
  passes_top (active i j a ∷ rest) e = sym (found_defaults (search_at p s i j a) e)

  pub enters_is : kind_next p s ≡ Some activate → IsEffect p s enters
  enters_is e = let parts = kind_parts activate e in (parts.0, enters_top s.stack parts.1)

  pub wakes_is : kind_next p s ≡ Some reactivate → IsEffect p s wakes
  wakes_is e = let parts = kind_parts reactivate e in (parts.0, wakes_top s.stack parts.1)

  pub leaves_is : kind_next p s ≡ Some drop → IsEffect p s leaves
  leaves_is e = let parts = kind_parts drop e in (parts.0, leaves_top s.stack parts.1)

  pub passes_is : kind_next p s ≡ Some default → IsEffect p s passes
  passes_is e = let parts = kind_parts default e in (parts.0, passes_top s.stack parts.1)

-- the rule of a firing that was found
rule_found : (p : Program) (rows : List Row) (h : History) (i f j r : ℕ) (rule : Rule) (place : ℕ) (t : List Row) → found_at rows h i (occurrence p f j) ≡ firing r rule place t → slice_get p r ≡ Some rule
rule_found p rows h i f j r rule place t is = by_occurrence (occurrence p f j) refl is
  where
    by_list : (o : Occurrence) → occurrence p f j ≡ Some o → (x : Option (List Row)) → found_with o.number o.rule o.place x ≡ firing r rule place t → slice_get p r ≡ Some rule
    by_list o at None e = cc
    by_list o at (Some u) e =
        let number : o.number ≡ r = cc in
        let same : o.rule ≡ rule = cc in
        ap (slice_get p) (sym number) ∙ occurrence_rule p f j o at ∙ ap Some same

    by_row : (o : Occurrence) → occurrence p f j ≡ Some o → (x : Option Atom) → found_for rows h o.number o.rule o.place i x ≡ firing r rule place t → slice_get p r ≡ Some rule
    by_row o at None e = cc
    by_row o at (Some a) e = by_list o at (first_tuple rows h o.number o.rule o.place (i, a)) e

    by_occurrence : (o : Option Occurrence) → occurrence p f j ≡ o → found_at rows h i o ≡ firing r rule place t → slice_get p r ≡ Some rule
    by_occurrence None at e = cc
    by_occurrence (Some o) at e = by_row o at (atom_of rows i) e

-- a rule fires, and the active constraint stays or not
pub record Fires (p : Program) (s : State) (stays : Bool) : Type 0 where
  pub top : Element
  pub rest : List Element
  pub number : ℕ
  pub rule : Rule
  pub place : ℕ
  pub list : List Row
  pub stack : s.stack ≡ top ∷ rest
  pub kept : nat_lt place rule.kept ≡ stays
  pub of_program : slice_get p number ≡ Some rule
  pub steps : step p s ≡ fire_step s rest top number rule place list
  pub effect : IsEffect p s (fires number rule.kept (ids_of list) (body_of rule list s.next_var) stays)

-- of the kind of a firing
abbrev pub kind_of_firing : Bool → Kind
kind_of_firing stays = cond stays propagate simplify

module _ (p : Program) (s : State) (stays : Bool) where
  fires_found : (i j : ℕ) (a : Atom) (rest : List Element) → s.status ≡ running → s.stack ≡ active i j a ∷ rest → (f : Found) → search_at p s i j a ≡ f → Same (kind_of_search f) (kind_of_firing stays) → Fires p s stays
  fires_found i j a rest ran stack no_occurrence is e = absurd (by stays e)
    where
      by : (b : Bool) → Same drop (kind_of_firing b) → ⊥
      by true e = cc
      by false e = cc
  fires_found i j a rest ran stack no_firing is e = absurd (by stays e)
    where
      by : (b : Bool) → Same default (kind_of_firing b) → ⊥
      by true e = cc
      by false e = cc
  fires_found i j a rest ran stack (firing r rule place t) is e =
      let kept : nat_lt place rule.kept ≡ stays = by (nat_lt place rule.kept) stays e in
      record {
        top = active i j a;
        rest = rest;
        number = r;
        rule = rule;
        place = place;
        list = t;
        stack = stack;
        kept = kept;
        of_program = rule_found p (rows s) s.history i a.sym j r rule place t is;
        steps = ap (step_at p s) ran ∙ ap (step_top p s) stack ∙ ap (search_step s rest i j a) is;
        effect = (ran, subst (λ (es : List Element). IsTopEffect p s es (fires r rule.kept (ids_of t) (body_of rule t s.next_var) stays)) (sym stack) (sym (ap (found_effect s) is ∙ ap (fires r rule.kept (ids_of t) (body_of rule t s.next_var)) kept)));
      }
    where
      by : (b d : Bool) → Same (cond b propagate simplify) (kind_of_firing d) → b ≡ d
      by true true e = refl
      by true false e = cc
      by false true e = cc
      by false false e = refl

  fires_top : (es : List Element) → s.status ≡ running → s.stack ≡ es → kind_on_top p s es ≡ Some (kind_of_firing stays) → Fires p s stays
  fires_top [] ran is e = cc
  fires_top (goal g ∷ rest) ran is e = absurd (by stays e)
    where
      by : (b : Bool) → Same (kind_of_goal g) (kind_of_firing b) → ⊥
      by true e = true≢false (sym (goal_kind p s g propagate e))
      by false e = true≢false (sym (goal_kind p s g simplify e))
  fires_top (known i a ∷ rest) ran is e = absurd (by stays e)
    where
      by : (b : Bool) → Same reactivate (kind_of_firing b) → ⊥
      by true e = cc
      by false e = cc
  fires_top (active i j a ∷ rest) ran is e = fires_found i j a rest ran is (search_at p s i j a) refl e

  pub fires_is : kind_next p s ≡ Some (kind_of_firing stays) → Fires p s stays
  fires_is e = let parts = kind_parts p s (kind_of_firing stays) e in fires_top s.stack parts.0 refl parts.1

-- a built-in is told
module _ (p : Program) (s : State) where
  told_goal : (rest : List Element) (g : Goal) (c : Effect) → Same (kind_of_goal g) solve → (let n = steps.solve s rest g in IsTold s n n.status c) → IsGoalEffect s rest g c
  told_goal rest (constraint a) c e told = absurd (let no : Same activate solve = e in cc)
  told_goal rest (tell t u) c e told = told
  told_goal rest (evaluate x t) c e told = told
  told_goal rest (compare o t u) c e told = told
  told_goal rest fail c e told = told

  told_top : (es : List Element) (c : Effect) → s.status ≡ running → s.stack ≡ es → kind_on_top p s es ≡ Some solve → (let n = step p s in IsTold s n n.status c) → IsTopEffect p s es c
  told_top [] c ran is e told = cc
  told_top (goal g ∷ rest) c ran is e told = told_goal rest g c e (subst (λ (n : State). IsTold s n n.status c) (ap (step_at p s) ran ∙ ap (step_top p s) is) told)
  told_top (known i a ∷ rest) c ran is e told = cc
  told_top (active i j a ∷ rest) c ran is e told = absurd (true≢false (sym (found_kind p s (search_at p s i j a) solve e)))

  pub told_is : (c : Effect) → kind_next p s ≡ Some solve → (let n = step p s in IsTold s n n.status c) → IsEffect p s c
  told_is c e told = let parts = kind_parts p s solve e in (parts.0, told_top s.stack c parts.0 refl parts.1 told)

-- ---- a built-in that holds

pub record Holds (p : Program) (s : State) : Type 0 where
  pub told : Goal
  pub rest : List Element
  pub stack : s.stack ≡ goal told ∷ rest
  pub steps : step p s ≡ steps.solve s rest told
  pub woken : (step p s).stack ≡ woken_elements s ++ rest

module _ (s : State) (rest : List Element) where
  bound_wakes : (m : Option Subst) → is_held (bind_step s rest m).status ≡ true → (bind_step s rest m).stack ≡ woken_elements s ++ rest
  bound_wakes None e = cc
  bound_wakes (Some r) e = refl

  evaluated_wakes : (x : Tree) (v : Result ℤ Fault) → is_held (evaluate_step s rest x v).status ≡ true → (evaluate_step s rest x v).stack ≡ woken_elements s ++ rest
  evaluated_wakes x (Err f) e = cc
  evaluated_wakes x (Ok z) e = bound_wakes (mgu s.subst x (int z)) e

  compared_wakes : (o : Comparison) (v w : Result ℤ Fault) → is_held (compare_step s rest o v w).status ≡ true → (compare_step s rest o v w).stack ≡ woken_elements s ++ rest
  compared_wakes o (Err f) w e = cc
  compared_wakes o (Ok x) (Err f) e = cc
  compared_wakes o (Ok x) (Ok y) e = by (comparison_holds o x y) e
    where
      by : (b : Bool) → is_held (cond b (with_stack s (woken_elements s ++ rest)) (with_status s failed)).status ≡ true → (cond b (with_stack s (woken_elements s ++ rest)) (with_status s failed)).stack ≡ woken_elements s ++ rest
      by true e = refl
      by false e = cc

  goal_wakes : (g : Goal) → Same (kind_of_goal g) solve → is_held (steps.solve s rest g).status ≡ true → (steps.solve s rest g).stack ≡ woken_elements s ++ rest
  goal_wakes (constraint a) k e = absurd (let no : Same activate solve = k in cc)
  goal_wakes (tell t u) k e = bound_wakes (mgu s.subst t u) e
  goal_wakes (evaluate x t) k e = evaluated_wakes x (value (apply s.subst t)) e
  goal_wakes (compare o t u) k e = compared_wakes o (value (apply s.subst t)) (value (apply s.subst u)) e
  goal_wakes fail k e = cc

module _ (p : Program) (s : State) where
  holds_top : (es : List Element) → s.status ≡ running → s.stack ≡ es → kind_on_top p s es ≡ Some solve → is_held (step p s).status ≡ true → Holds p s
  holds_top [] ran is k e = cc
  holds_top (goal g ∷ rest) ran is k e =
      let next : step p s ≡ steps.solve s rest g = ap (step_at p s) ran ∙ ap (step_top p s) is in
      record {
        told = g;
        rest = rest;
        stack = is;
        steps = next;
        woken = ap (λ (t : State). t.stack) next ∙ goal_wakes s rest g k (sym (ap (λ (t : State). is_held t.status) next) ∙ e);
      }
  holds_top (known i a ∷ rest) ran is k e = cc
  holds_top (active i j a ∷ rest) ran is k e = absurd (true≢false (sym (found_kind p s (search_at p s i j a) solve k)))

  pub holds_is : kind_next p s ≡ Some solve → is_held (step p s).status ≡ true → Holds p s
  holds_is k e = let parts = kind_parts p s solve k in holds_top s.stack parts.0 refl parts.1 e

-- what a built-in that holds changes
pub held_told : (s t : State) (w : Status) (new : Subst) (c : Effect) → is_held w ≡ true → c ≡ binds new (woken_ids s) → AreGiven s.subst t.subst new → IsTold s t w c
held_told s t running new c e is given = (new, is, given)
held_told s t done new c e is given = (new, is, given)
held_told s t failed new c e is given = cc
held_told s t (faulted f) new c e is given = cc

-- what one changes that fails, or comes to a fault
pub ended_told : (s t : State) (w : Status) → is_held w ≡ false → IsTold s t w (ends w)
ended_told s t running e = cc
ended_told s t done e = cc
ended_told s t failed e = refl
ended_told s t (faulted f) e = refl
