use Rattle.std.proofs.Common.{length}
use Rattle.chr_read.proofs.directives.+after_all.Given as goal

abbrev pub decreases-after_all : goal.decreases-after_all
decreases-after_all l = length l.wanted.now
