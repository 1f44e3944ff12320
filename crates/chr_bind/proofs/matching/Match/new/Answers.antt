use Rattle.std.proofs.Common.{None, replicate}
use Rattle.chr_bind.proofs.Marked.{none_filled, none_matched}
use Rattle.chr_bind.proofs.matching.Match.new.Goals as goal

pub invariant_of-result : goal.invariant_of-result
invariant_of-result g c = record { filled = none_filled {A = g.row.A.Denot} (replicate 64 None) }

pub returns : goal.returns
returns g c x = none_matched {A = g.row.A.Denot} x (replicate 64 None)
