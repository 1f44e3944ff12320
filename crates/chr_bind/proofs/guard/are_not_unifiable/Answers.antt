use Rattle.std.proofs.Common.{◌∙◌}
use Rattle.chr_bind.proofs.Instances.{decides_none}
use Rattle.chr_bind.proofs.guard.are_not_unifiable.Goals as goal

pub returns : goal.returns
returns g c m h = decides_none c.in_ok-are_unifiable.field-0 _ _ _ _ c.in_ok-are_unifiable.ensures (c.term.ensures ∙ c.in_ok-left.ensures m h) (c.term-2.ensures ∙ c.in_ok-right.ensures m h)
