use Rattle.std.proofs.Common.{length}
use Rattle.chr_look.proofs.fronts.+place_of.Given as goal

abbrev pub decreases-place_of : goal.decreases-place_of
decreases-place_of g l = length l.lists.now
