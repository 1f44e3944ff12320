use Rattle.std.proofs.Common.{length}
use Rattle.chr_look.proofs.judging.+push_constraints.Given as goal

abbrev pub decreases-push_constraints : goal.decreases-push_constraints
decreases-push_constraints g l = length l.ids.now
