use Rattle.std.proofs.Common.{length}
use Rattle.chr_look.proofs.fronts.+symbol_at.Given as goal

abbrev pub decreases-symbol_at : goal.decreases-symbol_at
decreases-symbol_at g l = length l.heads.now
