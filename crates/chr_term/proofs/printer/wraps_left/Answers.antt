use Rattle.std.proofs.Common.{◌∙◌}
use Rattle.chr_term.proofs.Signs.{and_after}
use Rattle.chr_term.proofs.printer.wraps_left.Goals as goal

pub returns-then-product : goal.returns-then-product
returns-then-product g c = λ names vars. and_after _ _ _ c.if-product.true (c.is_sum.ensures ∙ c.shape_of.ensures.sum names vars)
