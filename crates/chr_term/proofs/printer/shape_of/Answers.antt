use Rattle.std.proofs.Common.{◌∙◌, ap, sym}
use Rattle.chr_term.specs.TermView.{trees_view}
use Rattle.chr_term.proofs.Shapes.{product_printed, sum_printed}
use Rattle.chr_term.proofs.printer.shape_of.Goals as goal

pub returns-in-Two-clause-sum : goal.returns-in-Two-clause-sum
returns-in-Two-clause-sum g c = λ names vars.
    sum_printed names vars c.args.term.now c.in-Node.sym c.in-Node.args c.in-Two.field-0.now c.in-Two.field-1.now c.shape_with_two.result c.in-Node.is (sym c.as_slice.ensures.value ∙ ap trees_view c.in-Two.ensures) c.shape_with_two.ensures

pub returns-in-Two-clause-product : goal.returns-in-Two-clause-product
returns-in-Two-clause-product g c = λ names vars.
    product_printed names vars c.args.term.now c.in-Node.sym c.in-Node.args c.in-Two.field-0.now c.in-Two.field-1.now c.shape_with_two.result c.in-Node.is (sym c.as_slice.ensures.value ∙ ap trees_view c.in-Two.ensures) c.shape_with_two.ensures
