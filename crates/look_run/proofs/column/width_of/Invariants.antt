use Rattle.std.proofs.Common.{◌≤◌}
use Rattle.look_run.proofs.column.width_of.Given as goal

abbrev pub invariant-loop-k : goal.invariant-loop-k
invariant-loop-k l = l.width ≤ l.k
