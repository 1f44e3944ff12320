use Rattle.std.proofs.Common.{◌≡◌, false, take}
use Rattle.std.specs.List.{list_any}
use Rattle.chr_semantics.specs.Tasks.{same_task}
use Rattle.chr_find.specs.SnapshotView.{task_view, tasks_view}
use Rattle.chr_machine.proofs.tasks.is_among.Given as goal

abbrev pub invariant-loop-other : goal.invariant-loop-other
invariant-loop-other l = list_any (same_task (task_view l.task)) (tasks_view (take l.other-index l.tasks)) ≡ false
