use Rattle.std.proofs.Common.{◌+◌, ◌-◌, vec_len}
use Rattle.chr_find.proofs.plan.Plan.put.Given as goal

abbrev pub decreases-loop-alloc : goal.decreases-loop-alloc
decreases-loop-alloc g l = l.sym.0 + 1 - vec_len l.self.lookups
