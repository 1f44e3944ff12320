use Rattle.std.proofs.Common.{◌≡◌, ◌≤◌, length, take}
use Rattle.std.specs.List.{list_any}
use Rattle.chr_semantics.specs.Tasks.{below_top}
use Rattle.chr_rules.specs.ProgramView.{rules_of}
use Rattle.chr_find.specs.SnapshotView.{task_view}
use Rattle.chr_trace.specs.State.{stack_view}
use Rattle.chr_machine.specs.Gathering.{is_other, waiting_tasks}
use Rattle.chr_machine.specs.Model.{model_of, state_in}
use Rattle.chr_base.specs.BaseView.{program_of}
use Rattle.chr_machine.proofs.execution.Execution.below_has_other.Given as goal

abbrev pub invariant-loop-left : goal.invariant-loop-left
invariant-loop-left g l =
    let p = rules_of (program_of l.self.course.base) in
    let s = state_in (model_of l.self) in
    let other = is_other (task_view l.task) in
    record {
      within : l.left ≤ length l.below;
      same : list_any other (below_top p s (stack_view l.below)) ≡ list_any other (waiting_tasks p s l.wanted (stack_view (take l.left l.below)));
    }

abbrev pub decreases-loop-left : goal.decreases-loop-left
decreases-loop-left g l = l.left
