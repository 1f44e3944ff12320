use Rattle.std.proofs.Common.{length}
use Rattle.chr_look.proofs.hindrances.+absence.Given as goal

abbrev pub decreases-absence : goal.decreases-absence
decreases-absence g l = length l.ids.now
