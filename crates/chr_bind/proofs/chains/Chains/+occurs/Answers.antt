use Rattle.std.proofs.Common.{◌≡◌, ◌∙◌, ap, arith, not, sym, true}
use Rattle.chr_semantics.specs.Tree.{is_ground_trees}
use Rattle.chr_term.specs.TermView.{view}
use Rattle.chr_semantics.specs.Subst.{value_at}
use Rattle.chr_bind.specs.Chains.{subst_of}
use Rattle.chr_term.proofs.Lists.{size_item}
use Rattle.chr_bind.proofs.Grounds.{occurs_nowhere}
use Rattle.chr_bind.proofs.chains.Chains.+occurs.Goals as goal

pub occurs_any-occurs-requires : goal.occurs_any-occurs-requires
occurs_any-occurs-requires g t c κs within =
    let smaller = size_item (value_at (subst_of c.args.self.now)) c.args.terms.now c.loop-term.term-index c.term-item.result c.loop-term-test.true c.term-item.is in
    (omega (arith, smaller, c.decreases), (within, c.requires))

pub occurs-returns-else-not-is_ground : goal.occurs-returns-else-not-is_ground
occurs-returns-else-not-is_ground g t c =
    let known : c.is_ground.result ≡ true = c.if-not-is_ground.false in
    let ground : is_ground_trees c.in-Node.args.now ≡ true = sym c.is_ground.ensures ∙ known in
    ap not known ∙ occurs_nowhere c.args.self.now (view c.args.term.now) c.in-Node.field-0.0 c.in-Node.args.now c.in-Node.ensures.0 ground c.args.var
