use Rattle.std.proofs.Common.{◌+◌, ◌<◌, ◌^◌}
use Rattle.chr_board.proofs.worker.work.Given as goal

abbrev pub invariant-loop : goal.invariant-loop
invariant-loop g l = l.posted + l.given_up < 2 ^ 32
