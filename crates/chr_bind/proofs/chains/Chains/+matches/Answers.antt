use Rattle.std.proofs.Common.{arith, refl}
use Rattle.chr_semantics.specs.Subst.{value_at}
use Rattle.chr_bind.specs.Chains.{subst_of}
use Rattle.chr_term.proofs.Lists.{length-same, same_at, same_from_next, size_item}
use Rattle.chr_bind.proofs.chains.Chains.+matches.Goals as goal

pub resolve_to-returns-then-terms-others : goal.resolve_to-returns-then-terms-others
resolve_to-returns-then-terms-others g t c = grind (arith, length-same (value_at (subst_of c.args.self.now)) c.args.terms.now c.args.others.now)

pub resolve_to-resolves_to-requires : goal.resolve_to-resolves_to-requires
resolve_to-resolves_to-requires g t c κs within =
    let smaller = size_item (value_at (subst_of c.args.self.now)) c.args.terms.now c.loop-i.i c.index-terms-i.result (omega arith) c.index-terms-i.is in
    (omega (arith, smaller, c.decreases), (within, c.requires))

pub resolve_to-returns-then-not-resolves_to : goal.resolve_to-returns-then-not-resolves_to
resolve_to-returns-then-not-resolves_to g t c =
    ((λ no. absurd (cc)), (λ e. c.if-not-resolves_to.ensures.1 (same_at _ _ c.args.terms.now c.args.others.now c.loop-i.i c.index-terms-i.result c.index-others-i.result c.loop-i.invariant (omega arith) (omega arith) c.index-terms-i.is c.index-others-i.is e)))

pub resolve_to-loop-i-preserved : goal.resolve_to-loop-i-preserved
resolve_to-loop-i-preserved g t c =
    same_from_next _ _ c.args.terms.now c.args.others.now c.loop-i.i c.index-terms-i.result c.index-others-i.result c.loop-i.invariant (omega arith) (omega arith) c.index-terms-i.is c.index-others-i.is (c.if-not-resolves_to.ensures.0 refl)
