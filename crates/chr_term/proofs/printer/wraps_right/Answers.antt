use Rattle.std.proofs.Common.{sym, ap, ◌∙◌, ◌&&◌}
use Rattle.chr_semantics.specs.Print.{printing_of}
use Rattle.chr_term.specs.TermView.{view}
use Rattle.chr_term.proofs.Signs.{and_after, or_at_once, or_after}
use Rattle.chr_term.proofs.printer.wraps_right.Goals as goal

pub returns-then-is_sum : goal.returns-then-is_sum
returns-then-is_sum g c = λ names vars. or_at_once _ _ _ c.if-is_sum.true (c.is_sum.ensures ∙ c.shape_of-shape.ensures.sum names vars)

pub returns-then-product : goal.returns-then-product
returns-then-product g c = λ names vars. or_after _ _ _ _ c.if-is_sum.false (c.is_sum.ensures ∙ c.shape_of-shape.ensures.sum names vars) (and_after _ _ _ c.if-product.true (c.is_product.ensures ∙ c.shape_of-shape.ensures.product names vars))

pub returns-else-product : goal.returns-else-product
returns-else-product g c = λ names vars. or_after _ _ _ _ c.if-is_sum.false (c.is_sum.ensures ∙ c.shape_of-shape.ensures.sum names vars)
    (c.if-product.false ∙ ap (λ b. b && (printing_of names vars (view c.args.term.now)).is_product) (sym c.if-product.false))
