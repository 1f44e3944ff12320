use Rattle.std.proofs.Common.{length}
use Rattle.chr_look.proofs.hindrances.+other_symbol.Given as goal

abbrev pub decreases-other_symbol : goal.decreases-other_symbol
decreases-other_symbol g l = length l.heads.now
