-- So many times no stands there as the loop has gone round.
use Rattle.std.proofs.Common.{◌≡◌, false, replicate}
use Rattle.chr_core.proofs.round.none_kept.Given as goal

abbrev pub invariant-loop : goal.invariant-loop
invariant-loop g l = l.flags.items ≡ replicate l.counter false
