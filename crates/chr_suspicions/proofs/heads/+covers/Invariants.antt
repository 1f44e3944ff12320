use Rattle.std.proofs.Common.{◌+◌, ◌*◌, length}
use Rattle.chr_suspicions.proofs.heads.+covers.Given as goal

abbrev pub decreases-covers : goal.decreases-covers
decreases-covers g l = 2 * length l.heads.now

abbrev pub decreases-covers_with : goal.decreases-covers_with
decreases-covers_with g l = 2 * length l.heads.now + 1
