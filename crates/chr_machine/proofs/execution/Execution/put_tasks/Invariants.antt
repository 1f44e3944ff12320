use Rattle.std.proofs.Common.{◌≡◌, ◌-◌, ◌^◌}
use Rattle.chr_semantics.specs.Tasks.{tasks_from}
use Rattle.chr_semantics.specs.declared.limits.TheConstants.{MAX_TASKS}
use Rattle.chr_rules.specs.ProgramView.{rules_of}
use Rattle.chr_find.specs.SnapshotView.{tasks_view}
use Rattle.chr_machine.specs.Gathering.{gathered}
use Rattle.chr_base.specs.BaseView.{program_of}
use Rattle.chr_machine.proofs.execution.Execution.put_tasks.Given as goal

abbrev pub invariant-loop-waiting : goal.invariant-loop-waiting
invariant-loop-waiting g l =
    let p = rules_of (program_of l.self.course.base) in
    gathered MAX_TASKS (tasks_view l.initial.tasks.items) (tasks_from p l.waiting.sym.0 l.waiting.id.0 l.waiting.number) ≡ gathered MAX_TASKS (tasks_view l.tasks.items) (tasks_from p l.waiting.sym.0 l.waiting.id.0 l.number)

abbrev pub decreases-loop-waiting : goal.decreases-loop-waiting
decreases-loop-waiting g l = 2 ^ 31 - l.number
