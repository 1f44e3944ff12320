use Rattle.std.proofs.Common.{length, slice_get}
use Rattle.chr_bind.specs.Chains.{pairs_of}
use Rattle.chr_bind.proofs.Links.{left_after}
use Rattle.chr_bind.proofs.chains.Chains.+end.Given as goal

abbrev pub decreases-end : goal.decreases-end
decreases-end g l = left_after (length (pairs_of l.self.now)) (slice_get l.self.now.links.now l.var)
