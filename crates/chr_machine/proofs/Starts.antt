-- The state of a query before its first transition.
use Rattle.std.proofs.Common.{◌≡◌, ◌∙◌, ◌++◌, [], List, ap, append-nil, arith, map, subst, sym, refl}
use Rattle.std.proofs.lemmas.Simd.{map-map}
use Rattle.chr_semantics.specs.Bounds.{AreBounded, IsQueryBounded}
use Rattle.chr_semantics.specs.Changes.{Store}
use Rattle.chr_semantics.specs.Names.{Names, VarNames}
use Rattle.chr_semantics.specs.Program as semantics
use Rattle.chr_semantics.specs.Program.{Program, Query}
use Rattle.chr_semantics.specs.State.{Element, State, Status, goal, start, status_at}
use Rattle.chr_semantics.proofs.Soundness.{sound_start}
use Rattle.chr_laws.proofs.Steps.{bounds_law}
use Rattle.chr_rules.specs.RuleView.{goal_view}
use Rattle.chr_rules.specs.declared.goal.Goal.{Goal}
use Rattle.chr_machine.specs.MachineView.{Starts}
use Rattle.chr_machine.specs.Model.{CourseModel, Model, first_course, model_with, state_in}
use Rattle.chr_machine.specs.Step.{IsCounted, IsProper}

-- a query's goals in their order, and nothing else
pub first_start : (names : Names) (rules : Program) (q : Query) → Starts names rules q (model_with (start q).stack (start q).status (first_course names rules q.var_names))
first_start names rules q = record {
  names_are = refl;
  rules_are = refl;
  var_names_are = refl;
  state_is = refl;
  store_is = refl;
  entries_are = refl;
  steps_are = refl;
  lines_are = refl;
}

-- what the parts make
pub started : {A : Type 0} (names : Names) (rules : Program) (goals : List (Goal A)) (vars : VarNames) (es : List Element) (w : Status) (c : CourseModel) → es ≡ map (λ (g : Goal A). goal (goal_view g)) goals ++ [] → w ≡ status_at es → c ≡ first_course names rules vars
    → Starts names rules (record { goals = map goal_view goals; var_names = vars }) (model_with es w c)
started {A} names rules goals vars es w c stack status course =
    let q : Query = record { goals = map goal_view goals; var_names = vars } in
    let all : es ≡ (start q).stack = stack ∙ (append-nil _ ∙ sym (map-map (λ (g : semantics.Goal). goal g) goal_view goals)) in
    let at : w ≡ (start q).status = status ∙ ap status_at all in
    let is : model_with es w c ≡ model_with (start q).stack (start q).status (first_course names rules vars) = λ k. model_with (all k) (at k) (course k) in
    subst (Starts names rules q) (sym is) (first_start names rules q)

-- nothing is counted yet
pub counted_start : (names : Names) (rules : Program) (q : Query) (m : Model) → Starts names rules q m → IsCounted m
counted_start names rules q m at =
    let next = ap (λ (s : Store). s.next_id) at.store_is in
    let changes = ap (λ (s : Store). s.changes) at.store_is in
    record { limit = omega (arith, at.steps_are); given = omega (arith, next, at.steps_are); changed = omega (arith, changes, at.steps_are) }

-- it is proper
pub proper_start : (names : Names) (rules : Program) (q : Query) (m : Model) → AreBounded rules → IsQueryBounded q → Starts names rules q m → IsProper m.rules (state_in m)
proper_start names rules q m bounded small at =
    subst (λ (p : Program). IsProper p (state_in m)) (sym at.rules_are)
    (subst (λ (s : State). IsProper rules s) (sym at.state_is) (record { bounded = bounded; sound = sound_start q; within = bounds_law.starts q small }))
