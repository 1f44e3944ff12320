-- What a Solve does.
use Rattle.std.specs.Prelude.{◌≡◌, ◌⊎◌, ◌<◌, ℕ, ℤ, ◌++◌, List, [], ◌∷◌, Result, Ok, Err}
use Rattle.chr_semantics.specs.Calls.{bind_calls}
use Rattle.chr_semantics.specs.Changes.{woken}
use Rattle.chr_semantics.specs.Mgu.{mgu}
use Rattle.chr_semantics.specs.Program.{Comparison, Goal, tell, evaluate, compare}
use Rattle.chr_semantics.specs.State.{Element, State, goal, running, status_at}
use Rattle.chr_semantics.specs.Step.{bind_step, compare_step, evaluate_step, goal_instance, solve, with_status, woken_elements}
use Rattle.chr_semantics.specs.Subst.{Subst, apply, value_at}
use Rattle.chr_semantics.specs.Trace.{solve_line}
use Rattle.chr_semantics.specs.Tree.{Tree}
use Rattle.chr_semantics.specs.Value.{value}
use Rattle.chr_semantics.specs.declared.limits.TheConstants.{MAX_CHANGES, MAX_TRANSITIONS}
use Rattle.chr_bind.specs.Comparison.{comparison_view}
use Rattle.chr_bind.specs.Values.{fault_view}
use Rattle.chr_bind.specs.declared.fault.Fault.{Fault}
use Rattle.chr_trace.specs.State.{status_view}
use Rattle.chr_machine.specs.Model.{CourseModel, Model, line_in, logged, model_with, state_in}
use Rattle.chr_machine.specs.Step.{Counts, SameRun}
use Rattle.chr_machine.specs.declared.solving.Kind.{Kind}
use Rattle.chr_machine.specs.declared.solving.Kind.TheVariants.{Tell, Evaluate, Compare}
use Rattle.chr_machine.specs.declared.solving.Solved.{Solved}
use Rattle.chr_machine.specs.declared.solving.Solved.TheVariants.{Holds, Ends}

-- a Solve can be made, which wakes the constraints with these identities
pub record CanSolve (c : CourseModel) (ids : List ℕ) : Type 0 where
  pub few : c.steps < MAX_TRANSITIONS
  pub changes : c.base.store.changes < MAX_CHANGES
  pub ids_are : ids ≡ woken c.base.store c.base.subst

-- a goal with the bindings applied
abbrev pub shown : CourseModel → Goal → Goal
shown c g = goal_instance (value_at c.base.subst) g

-- the state with the goal on top of these elements
abbrev pub with_goal : Goal → List Element → CourseModel → State
with_goal g rest c = state_in (model_with (goal g ∷ rest) running c)

-- what wakes
abbrev pub woken_in : CourseModel → List Element
woken_in c = woken_elements (state_in (model_with [] running c))

-- a Solve of the goal, which was on top of m, leads to the state t
pub record Reaches (g : Goal) (t : State) (rest : List Element) (c : CourseModel) (n : Model) : Type 0 where
  pub state : state_in n ≡ t
  pub store : n.base.store ≡ bind_calls (with_goal g rest c) t c.base.store
  pub entries : n.base.entries ≡ c.base.entries
  pub lines : n.lines ≡ c.lines ++ line_in c (solve_line (shown c g) t.status) ∷ []
  pub counts : Counts (model_with rest running c) n
  pub same : SameRun (model_with rest running c) n

-- What came of a Solve that is to lead to a state, by what lies below the goal: it holds, and the woken elements go in the place of the
-- goal, or the run ends, with the goal on its stack.
abbrev pub Solves : Goal → (List Element → State) → CourseModel → Solved → CourseModel → Type 0
Solves g t c Holds d = (rest : List Element) → Reaches g (t rest) rest c (model_with (woken_in c ++ rest) (status_at (woken_in c ++ rest)) d)
Solves g t c (Ends w) d = (rest : List Element) → Reaches g (t rest) rest c (model_with (goal g ∷ rest) (status_view w) d)

module _ (g : Goal) (c : CourseModel) (solved : Solved) (d : CourseModel) where
  -- that two terms are equal is told
  abbrev pub Tells : Tree → Tree → Type 0
  Tells t u = Solves g (λ rest. bind_step (with_goal g rest c) rest (mgu c.base.subst t u)) c solved d

  -- a value is told
  abbrev pub Evaluates : Tree → Tree → Type 0
  Evaluates t u = Solves g (λ rest. evaluate_step (with_goal g rest c) rest t (value (apply c.base.subst u))) c solved d

  -- two values are compared
  abbrev pub Compares : Comparison → Tree → Tree → Type 0
  Compares f t u = Solves g (λ rest. compare_step (with_goal g rest c) rest f (value (apply c.base.subst t)) (value (apply c.base.subst u))) c solved d

  -- the goal is solved
  abbrev pub SolvesGoal : Type 0
  SolvesGoal = Solves g (λ rest. solve (with_goal g rest c) rest g) c solved d

-- the built-in of a kind, of these sides
abbrev pub kind_view : Kind → Tree → Tree → Goal
kind_view Tell t u = tell t u
kind_view Evaluate t u = evaluate t u
kind_view (Compare c) t u = compare (comparison_view c) t u

-- the values of both terms, or the first fault
abbrev pub AreValues : Subst → Tree → Tree → Result (ℤ × ℤ) Fault → Type 0
AreValues s t u (Ok p) = (value (apply s t) ≡ Ok p.0) × (value (apply s u) ≡ Ok p.1)
AreValues s t u (Err f) = (value (apply s t) ≡ Err (fault_view f)) ⊎ ((z : ℤ) × (value (apply s t) ≡ Ok z) × (value (apply s u) ≡ Err (fault_view f)))
