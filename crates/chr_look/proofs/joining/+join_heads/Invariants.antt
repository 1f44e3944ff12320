use Rattle.std.proofs.Common.{length}
use Rattle.chr_look.proofs.joining.+join_heads.Given as goal

abbrev pub decreases-join_heads : goal.decreases-join_heads
decreases-join_heads g l = length l.heads.now
