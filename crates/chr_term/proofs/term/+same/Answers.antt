use Rattle.std.proofs.Common.{refl, arith}
use Rattle.chr_term.proofs.Lengths.{length-same_view}
use Rattle.chr_term.proofs.Dropped.{same_from_next, same_at}
use Rattle.chr_term.proofs.term.+same.Goals as goal

pub same_all-returns-then-left-right : goal.same_all-returns-then-left-right
same_all-returns-then-left-right g t c = grind (arith, length-same_view c.args.left.now c.args.right.now)

pub same_all-returns-then-not-same : goal.same_all-returns-then-not-same
same_all-returns-then-not-same g t c =
    ((λ no. absurd (cc)), (λ e. c.if-not-same.ensures.1 (same_at _ c.args.left.now c.args.right.now c.loop-i.i c.index-left-i.result c.index-right-i.result c.loop-i.invariant (omega arith) (omega arith) c.index-left-i.is c.index-right-i.is e)))

pub same_all-loop-i-preserved : goal.same_all-loop-i-preserved
same_all-loop-i-preserved g t c =
    same_from_next _ c.args.left.now c.args.right.now c.loop-i.i c.index-left-i.result c.index-right-i.result c.loop-i.invariant (omega arith) (omega arith) c.index-left-i.is c.index-right-i.is (c.if-not-same.ensures.0 refl)
