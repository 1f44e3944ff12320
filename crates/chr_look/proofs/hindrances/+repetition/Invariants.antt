use Rattle.std.proofs.Common.{length}
use Rattle.chr_look.proofs.hindrances.+repetition.Given as goal

abbrev pub decreases-repetition : goal.decreases-repetition
decreases-repetition g l = length l.ids.now
