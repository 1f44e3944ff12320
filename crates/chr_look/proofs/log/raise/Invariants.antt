use Rattle.std.proofs.Common.{◌+◌, ◌-◌, length}
use Rattle.chr_look.proofs.Raised.{IsRaising}
use Rattle.chr_look.proofs.log.raise.Given as goal

abbrev pub invariant-loop-value : goal.invariant-loop-value
invariant-loop-value g l = IsRaising l.value l.height l.initial.lows.items l.lows.items

abbrev pub decreases-loop-value : goal.decreases-loop-value
decreases-loop-value g l = l.height + 1 - length l.lows.items
