use Rattle.std.proofs.Common.{◌+◌, arith}
use Rattle.chr_semantics.specs.Subst.{instance}
use Rattle.chr_semantics.specs.Tree.{var}
use Rattle.chr_semantics.specs.declared.limits.TheConstants.{MAX_RULE_VARIABLES}
use Rattle.chr_term.specs.TermView.{view}
use Rattle.chr_term.proofs.Lists.{below_item, built_whole}
use Rattle.chr_term.proofs.Mapped.{map_pushed}
use Rattle.chr_term.proofs.Sizes.{size-item}
use Rattle.chr_look.proofs.renaming.+rename.Goals as goal

pub rename_all-rename-requires : goal.rename_all-rename-requires
rename_all-rename-requires g t c κs within =
    let smaller = size-item view c.args.terms.now c.loop-term.term-index c.term-item.result c.loop-term-test.true c.term-item.is in
    (omega (arith, smaller, c.decreases), (within, (below_item MAX_RULE_VARIABLES c.args.terms.now c.loop-term.term-index c.term-item.result c.loop-term-test.true c.term-item.is c.requires.below, c.requires.few)))

pub rename_all-returns : goal.rename_all-returns
rename_all-returns g t c = built_whole (λ x. var (c.args.n + x)) c.loop-term.items.items c.args.terms.now _ c.loop-term.invariant c.loop-term-test.false

pub rename_all-loop-term-preserved : goal.rename_all-loop-term-preserved
rename_all-loop-term-preserved g t c =
    rw c.in_ok-push.ensures.items (map_pushed view (λ t. instance (λ x. var (c.args.n + x)) (view t)) _ _ _ c.term-item.result _ c.loop-term.invariant c.loop-term-test.true c.in_ok-rename.ensures c.term-item.is)
