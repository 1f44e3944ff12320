use Rattle.std.proofs.Common.{◌∙◌}
use Rattle.chr_bind.proofs.Instances.{decides_same}
use Rattle.chr_bind.proofs.guard.are_identical.Goals as goal

pub returns : goal.returns
returns g c m h = decides_same c.same.result _ _ _ _ c.same.ensures (c.term.ensures ∙ c.in_ok-left.ensures m h) (c.term-2.ensures ∙ c.in_ok-right.ensures m h)
