use Rattle.std.proofs.Common.{refl, subst, sym}
use Rattle.chr_semantics.specs.Bounds.{AreBelow}
use Rattle.chr_term.proofs.Dropped.{trees_view-drop}
use Rattle.chr_bind.proofs.below.+below.Goals as goal

pub are_below-returns-then-not-is_below : goal.are_below-returns-then-not-is_below
are_below-returns-then-not-is_below g t c =
    let rest = trees_view-drop c.args.terms.now c.loop-term.term-index c.term-item.result c.loop-term-test.true c.term-item.is in
    ((λ no. absurd (cc)), (λ all. c.if-not-is_below.ensures.1 (subst (AreBelow c.args.bound) rest (c.loop-term.invariant.0 all)).0))

pub are_below-loop-term-preserved : goal.are_below-loop-term-preserved
are_below-loop-term-preserved g t c =
    let rest = trees_view-drop c.args.terms.now c.loop-term.term-index c.term-item.result c.loop-term-test.true c.term-item.is in
    ((λ all. (subst (AreBelow c.args.bound) rest (c.loop-term.invariant.0 all)).1), (λ others. c.loop-term.invariant.1 (subst (AreBelow c.args.bound) (sym rest) (c.if-not-is_below.ensures.0 refl, others))))
