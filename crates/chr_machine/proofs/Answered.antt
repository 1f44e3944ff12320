-- What answers the search of a step.
use Rattle.std.proofs.Common.{◌≡◌, ◌∙◌, ◌≤◌, ◌&&◌, ℕ, List, [], ◌∷◌, Option, Some, None, ap, arith, cond, length, refl, subst, sym}
use Rattle.std.specs.Prelude.{IfSome, is_some, option_map}
use Rattle.std.proofs.lemmas.List.{length-map}
use Rattle.chr_semantics.specs.Bounds.{AreBounded, IsBounded}
use Rattle.chr_semantics.specs.Footprint.{Agrees, step_answer_top}
use Rattle.chr_semantics.specs.Match.{Row}
use Rattle.chr_semantics.specs.Program.{Atom, Occurrence, Program, Rule, occurrence}
use Rattle.chr_semantics.specs.Search.{History, IsTuple, atom_of, can_fire, first, first_of, first_tuple, found_at, found_for, found_with, ids_found, ids_of, search_for, tuples}
use Rattle.chr_semantics.specs.State.{Element, State, Status, active, goal, known, running, done, failed, faulted, rows}
use Rattle.chr_semantics.specs.Tasks.{Task, needed_task, needed_task_top}
use Rattle.chr_semantics.proofs.Lists.{All-got}
use Rattle.chr_semantics.proofs.Lookups.{atom_resolved}
use Rattle.chr_semantics.proofs.OccurrenceRule.{occurrence_rule}
use Rattle.chr_semantics.proofs.TuplesLaw.{tuples_law}
use Rattle.chr_laws.proofs.Steps.{find_so}
use Rattle.chr_machine.specs.Answering.{AnswersStep}
use Rattle.chr_machine.specs.Model.{Model, state_in}
use Rattle.chr_machine.specs.NeedView.{Answers, need_by, search_of}
use Rattle.chr_machine.specs.declared.search_answer.SearchAnswer.TheVariants.{Found}

-- the first firing of the constraint that is active, which lives and has the occurrence
first_at : (p : Program) (s : State) (i j : ℕ) (a : Atom) (es : List Element) (t : Task) (x : Option Atom) (o : Option Occurrence) → ((b : Atom) → atom_of s.store i ≡ Some b → b ≡ a) → atom_of s.store i ≡ x
    → cond {A = Option Task} (is_some x && is_some o) (Some (i, j)) None ≡ Some t → first p (rows s) s.history t.0 t.1 ≡ ids_found (search_for p (rows s) s.history a.sym i j)
first_at p s i j a es t None o agree is e = cc
first_at p s i j a es t (Some b) None agree is e = cc
first_at p s i j a es t (Some b) (Some o) agree is e =
    let same : (i, j) ≡ t = cc in
    subst (λ (u : Task). first p (rows s) s.history u.0 u.1 ≡ ids_found (search_for p (rows s) s.history a.sym i j)) same
    (ap (first_of p (rows s) s.history i j) (atom_resolved s.subst s.store i b is) ∙ ap (λ (x : Atom). ids_found (search_for p (rows s) s.history x.sym i j)) (agree b is))

-- the first firing of the task that a state needs is what the search of its step finds
first_needed : (p : Program) (s : State) (es : List Element) (t : Task) → Agrees s.store s.next_id es → needed_task_top p s es ≡ Some t → first p (rows s) s.history t.0 t.1 ≡ step_answer_top p s es
first_needed p s [] t h e = cc
first_needed p s (goal g ∷ es) t h e = cc
first_needed p s (known i a ∷ es) t h e = cc
first_needed p s (active i j a ∷ es) t h e = first_at p s i j a es t (atom_of s.store i) (occurrence p a.sym j) h.0.1 refl e

-- a step that asks for the search of a task needs that task
pub task_needed : (o : Option Task) (w : Status) (t : Task) → need_by o w ≡ search_of t → o ≡ Some t
task_needed None running t e = cc
task_needed (Some u) running t e = cc
task_needed o done t e = cc
task_needed o failed t e = cc
task_needed o (faulted f) t e = cc

-- a tuple that can fire has at most eight rows
few_rows : (all : List Row) (h : History) (r : ℕ) (rule : Rule) (place : ℕ) (x : Row) (t : List Row) → IsBounded rule → first_tuple all h r rule place x ≡ Some t → length (ids_of t) ≤ 8
few_rows all h r rule place x t bounded is =
    let tuple = (find_so (IsTuple all rule place x) (can_fire h r rule) (tuples all rule place x) t (tuples_law.are_tuples all rule place x) is).1 in
    omega (arith, length-map t (λ (c : Row). c.0), tuple.one_each, bounded.few_heads)

-- so what a search finds has at most eight identities
few_found : (p : Program) (all : List Row) (h : History) (f i j : ℕ) (ids : List ℕ) → AreBounded p → Some ids ≡ ids_found (search_for p all h f i j) → length ids ≤ 8
few_found p all h f i j ids bounded = by_occurrence (occurrence p f j) refl
  where
    some_ids : (x y : List ℕ) → ◌≡◌ {A = Option (List ℕ)} (Some x) (Some y) → x ≡ y
    some_ids x y e = cc

    by_tuple : (o : Occurrence) (x : Row) (t : Option (List Row)) → IsBounded o.rule → first_tuple all h o.number o.rule o.place x ≡ t → Some ids ≡ ids_found (found_with o.number o.rule o.place t) → length ids ≤ 8
    by_tuple o x None b is e = cc
    by_tuple o x (Some t) b is e = subst (λ (l : List ℕ). length l ≤ 8) (sym (some_ids ids (ids_of t) e)) (few_rows all h o.number o.rule o.place x t b is)

    by_atom : (o : Occurrence) (a : Option Atom) → IsBounded o.rule → Some ids ≡ ids_found (found_for all h o.number o.rule o.place i a) → length ids ≤ 8
    by_atom o None b e = cc
    by_atom o (Some a) b e = by_tuple o (i, a) (first_tuple all h o.number o.rule o.place (i, a)) b refl e

    by_occurrence : (o : Option Occurrence) → occurrence p f j ≡ o → Some ids ≡ ids_found (found_at all h i o) → length ids ≤ 8
    by_occurrence None at e = cc
    by_occurrence (Some o) at e = by_atom o (atom_of all i) (All-got IsBounded p o.number o.rule (occurrence_rule p f j o at) bounded) e

-- and so has the first firing of a task
few_first : (p : Program) (all : List Row) (h : History) (i j : ℕ) (ids : List ℕ) → AreBounded p → Some ids ≡ first p all h i j → length ids ≤ 8
few_first p all h i j ids bounded e = by_atom (atom_of all i) e
  where
    by_atom : (a : Option Atom) → Some ids ≡ first_of p all h i j a → length ids ≤ 8
    by_atom None e = cc
    by_atom (Some a) e = few_found p all h a.sym i j ids bounded e

-- an answer to the need of a state has at most eight identities
pub few_answer : {X : Type 0} (m : Model) (items : X → List ℕ) (o : Option X) → AreBounded m.rules → Answers m (option_map items o) → IfSome o (λ x. length (items x) ≤ 8)
few_answer m items None bounded h = tt
few_answer m items (Some x) bounded h = few_first m.rules (rows (state_in m)) (state_in m).history h.task.0 h.task.1 (items x) bounded h.finds

-- what answers the need of a state is known of the search of its step
pub answers_step : (m : Model) (ids : Option (List ℕ)) → Agrees m.base.store.rows m.base.store.next_id m.stack → Answers m ids → AnswersStep m (Found ids)
answers_step m ids agrees h = h.finds ∙ first_needed m.rules (state_in m) m.stack h.task agrees (task_needed (needed_task m.rules (state_in m)) m.status h.task h.needs)
