use Rattle.std.proofs.Common.{arith}
use Rattle.chr_term.specs.TermView.{view}
use Rattle.chr_term.proofs.Sizes.{size-item}
use Rattle.chr_suspicions.proofs.arithmetic.+arithmetic.Goals as goal

pub have_arithmetic-has_arithmetic-requires : goal.have_arithmetic-has_arithmetic-requires
have_arithmetic-has_arithmetic-requires g t c κs within =
    let smaller = size-item view c.args.terms.now c.loop-term.term-index c.term-item.result c.loop-term-test.true c.term-item.is in
    (omega (arith, smaller, c.decreases), within)
