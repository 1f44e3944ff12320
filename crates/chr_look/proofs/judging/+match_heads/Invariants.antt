use Rattle.std.proofs.Common.{length}
use Rattle.chr_look.proofs.judging.+match_heads.Given as goal

abbrev pub decreases-match_heads : goal.decreases-match_heads
decreases-match_heads g l = length l.heads.now
