use Rattle.std.proofs.Common.{◌≤◌, vec_len, vec_capacity}
use Rattle.chr_workers.proofs.workers.fn.work_all.scope.Given as goal

abbrev pub invariant-loop : goal.invariant-loop
invariant-loop g l = (vec_len l.started ≤ l.counter) × (l.workers ≤ vec_capacity l.started)
