-- The touches of the tasks that the loop has passed stand there.
use Rattle.std.proofs.Common.{◌≡◌, map, take}
use Rattle.chr_find.specs.SnapshotView.{tasks_view}
use Rattle.chr_machine.specs.MachineView.{machine_view}
use Rattle.chr_core.specs.RoundView.{touches_at}
use Rattle.chr_core.proofs.touching.touches_of.Given as goal

abbrev pub invariant-loop-task : goal.invariant-loop-task
invariant-loop-task g l = l.sums.items ≡ map (touches_at (machine_view l.machine)) (tasks_view (take l.task-index l.tasks))
