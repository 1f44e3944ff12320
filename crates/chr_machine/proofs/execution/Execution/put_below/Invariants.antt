use Rattle.std.proofs.Common.{◌≡◌, ◌≤◌, length, take}
use Rattle.chr_semantics.specs.Tasks.{below_top}
use Rattle.chr_semantics.specs.declared.limits.TheConstants.{MAX_TASKS}
use Rattle.chr_rules.specs.ProgramView.{rules_of}
use Rattle.chr_find.specs.SnapshotView.{tasks_view}
use Rattle.chr_trace.specs.State.{stack_view}
use Rattle.chr_machine.specs.Gathering.{gathered, waiting_tasks}
use Rattle.chr_machine.specs.Model.{model_of, state_in}
use Rattle.chr_base.specs.BaseView.{program_of}
use Rattle.chr_machine.proofs.execution.Execution.put_below.Given as goal

abbrev pub invariant-loop-left : goal.invariant-loop-left
invariant-loop-left g l =
    let p = rules_of (program_of l.self.course.base) in
    let s = state_in (model_of l.self) in
    record {
      within : l.left ≤ length l.below;
      same : gathered MAX_TASKS (tasks_view l.initial.tasks.items) (below_top p s (stack_view l.below)) ≡ gathered MAX_TASKS (tasks_view l.tasks.items) (waiting_tasks p s l.wanted (stack_view (take l.left l.below)));
    }

abbrev pub decreases-loop-left : goal.decreases-loop-left
decreases-loop-left g l = l.left
