use Rattle.std.proofs.Common.{◌∙◌, ◌++◌, ap, arith}
use Rattle.chr_semantics.specs.Subst.{instance}
use Rattle.chr_term.specs.Replaced.{tree_at}
use Rattle.chr_term.specs.TermView.{view}
use Rattle.chr_term.proofs.Lists.{below_item, replaced_whole}
use Rattle.chr_term.proofs.Replaced.{one_more}
use Rattle.chr_term.proofs.Sizes.{size-item}
use Rattle.chr_base.specs.Bodies.{stands_for}
use Rattle.chr_base.proofs.body.Body.+build.Goals as goal

pub new_terms-new_term-requires : goal.new_terms-new_term-requires
new_terms-new_term-requires g t c κs within =
    let smaller = size-item view c.args.terms.now c.loop-i.i c.index-terms-i.result c.loop-i-test.true c.index-terms-i.is in
    let below = below_item c.args.self.now.rule.now.vars c.args.terms.now c.loop-i.i c.index-terms-i.result c.loop-i-test.true c.index-terms-i.is c.requires in
    (omega (arith, smaller, c.decreases), (within, below))

pub new_terms-loop-i-preserved : goal.new_terms-loop-i-preserved
new_terms-loop-i-preserved g t c m a =
    let terms = c.args.terms.now in
    c.in_ok-push_replaced.ensures
    ∙ ap (λ l. l ++ tree_at terms c.loop-i.i c.in_ok-replaced.replaced) (c.loop-i.invariant m a)
    ∙ one_more (λ t. instance (stands_for c.args.self.now m) (view t)) terms c.loop-i.i c.index-terms-i.result c.in_ok-replaced.replaced c.loop-i-test.true c.index-terms-i.is (c.in_ok-replaced.ensures m a)

pub new_terms-returns : goal.new_terms-returns
new_terms-returns g t c m a =
    replaced_whole (stands_for c.args.self.now m) c.loop-i.made c.args.terms.now _ (c.loop-i.invariant m a) c.loop-i-test.false
