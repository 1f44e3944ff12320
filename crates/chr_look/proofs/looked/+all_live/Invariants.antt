use Rattle.std.proofs.Common.{length}
use Rattle.chr_look.proofs.looked.+all_live.Given as goal

abbrev pub decreases-all_live : goal.decreases-all_live
decreases-all_live g l = length l.ids.now
