-- Firings that are ready.
use Rattle.std.specs.Prelude.{◌≡◌, ◌∷◌, List}
use Rattle.chr_semantics.specs.State.{Element}
use Rattle.chr_trace.specs.State.{stack_view}
use Rattle.chr_machine.specs.Firing.{IsPrepared, top_at}
use Rattle.chr_machine.specs.Model.{course_of}
use Rattle.chr_machine.specs.Step.{CanMove}
use Rattle.chr_machine.specs.declared.course.Course.{Course}
use Rattle.chr_machine.specs.declared.execution.Execution.{Execution}
use Rattle.chr_machine.specs.declared.turning.ActiveConstraint.{ActiveConstraint}
use Rattle.chr_machine.specs.declared.turning.Firing.{Firing}

-- a firing that can be made
pub record CanFire {A : Type 0} (f : Firing A) (d : Course A) : Type 0 where
  pub constraint : ActiveConstraint A
  pub can : CanMove (course_of d) (top_at constraint)
  pub prepared : IsPrepared constraint f d

-- its constraint is on top of the stack
pub record IsOnTop {A : Type 0} (f : Firing A) (e : Execution A) : Type 0 where
  pub fires : CanFire f e.course
  pub rest : List Element
  pub top : stack_view e.stack.items ≡ top_at fires.constraint ∷ rest
