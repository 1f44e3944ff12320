use Rattle.std.proofs.Common.{length}
use Rattle.chr_look.proofs.renaming.+greatest_in.Given as goal

abbrev pub decreases-greatest_in : goal.decreases-greatest_in
decreases-greatest_in g l = length l.constraints.now
