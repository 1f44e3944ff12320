-- A Solve of the built-in on top of the stack, as a transition.
use Rattle.std.proofs.Common.{◌≡◌, ◌∙◌, ◌++◌, ◌∷◌, List, ap, sym, subst}
use Rattle.chr_semantics.specs.Program.{Goal}
use Rattle.chr_semantics.specs.State.{Element, goal, status_at}
use Rattle.chr_trace.specs.State.{stack_view, status_view}
use Rattle.chr_trace.specs.declared.state.Status.{Status}
use Rattle.chr_machine.specs.Model.{CourseModel, course_of, model_of}
use Rattle.chr_machine.specs.Solving.{SolvesGoal, woken_in}
use Rattle.chr_machine.specs.Stack.{HasBuiltIn}
use Rattle.chr_machine.specs.Step.{CanStep, Makes}
use Rattle.chr_machine.specs.declared.execution.Execution.{Execution}
use Rattle.chr_machine.specs.declared.solving.Solved.{Solved}
use Rattle.chr_machine.specs.declared.solving.Solved.TheVariants.{Ends, Holds}
use Rattle.chr_machine.proofs.Models.{makes_by}
use Rattle.chr_machine.proofs.Solved.{solve_makes}

module _ {A : Type 0} (old new : Execution A) (can : CanStep (model_of old)) (top : HasBuiltIn (stack_view old.stack.items)) (g : Goal) (rest : List Element) (stood : stack_view old.stack.items ≡ goal g ∷ rest) (s : Solved) (solved : SolvesGoal g (course_of old.course) s (course_of new.course)) where
  -- it holds
  pub solve_holds : s ≡ Holds → stack_view new.stack.items ≡ woken_in (course_of old.course) ++ rest → status_view new.status ≡ status_at (stack_view new.stack.items) → Makes (model_of old) (model_of new)
  solve_holds is stack status =
      let r = subst (λ (x : Solved). SolvesGoal g (course_of old.course) x (course_of new.course)) is solved in
      makes_by old new (goal g ∷ rest) (woken_in (course_of old.course) ++ rest) (status_at (woken_in (course_of old.course) ++ rest)) (course_of new.course) stood can.runs stack (status ∙ ap status_at stack) (λ k. course_of new.course)
      (solve_makes g rest (course_of old.course) _ (subst HasBuiltIn stood top) (r rest))

  -- it ends the run
  pub solve_ends : (w : Status) → s ≡ Ends w → stack_view new.stack.items ≡ goal g ∷ rest → status_view new.status ≡ status_view w → Makes (model_of old) (model_of new)
  solve_ends w is stack status =
      let r = subst (λ (x : Solved). SolvesGoal g (course_of old.course) x (course_of new.course)) is solved in
      makes_by old new (goal g ∷ rest) (goal g ∷ rest) (status_view w) (course_of new.course) stood can.runs stack status (λ k. course_of new.course) (solve_makes g rest (course_of old.course) _ (subst HasBuiltIn stood top) (r rest))
