use Rattle.std.proofs.Common.{length}
use Rattle.chr_look.proofs.hindrances.+waiting.Given as goal

abbrev pub decreases-waiting : goal.decreases-waiting
decreases-waiting g l = length l.constraints.now
