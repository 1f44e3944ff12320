use Rattle.std.proofs.Common.{◌≡◌, ◌≤◌, length, take}
use Rattle.chr_semantics.specs.Tasks.{guest_in}
use Rattle.chr_trace.specs.State.{stack_view}
use Rattle.chr_machine.proofs.tasks.first_told.Given as goal

abbrev pub invariant-loop-left : goal.invariant-loop-left
invariant-loop-left g l = record {
  within : l.left ≤ length l.stack;
  same : guest_in (stack_view l.stack) ≡ guest_in (stack_view (take l.left l.stack));
}

abbrev pub decreases-loop-left : goal.decreases-loop-left
decreases-loop-left g l = l.left
