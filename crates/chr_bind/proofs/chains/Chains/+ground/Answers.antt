use Rattle.std.proofs.Common.{◌≡◌, ◌∙◌, arith, sym, true}
use Rattle.chr_semantics.specs.Tree.{is_ground_trees}
use Rattle.chr_term.specs.TermView.{view}
use Rattle.chr_semantics.specs.Subst.{value_at}
use Rattle.chr_bind.specs.Chains.{subst_of}
use Rattle.chr_term.proofs.Lists.{size_item}
use Rattle.chr_bind.proofs.Grounds.{ground_root}
use Rattle.chr_bind.proofs.chains.Chains.+ground.Goals as goal

pub are_ground-is_ground-requires : goal.are_ground-is_ground-requires
are_ground-is_ground-requires g t c κs within =
    let smaller = size_item (value_at (subst_of c.args.self.now)) c.args.terms.now c.loop-term.term-index c.term-item.result c.loop-term-test.true c.term-item.is in
    (omega (arith, smaller, c.decreases), (within, c.requires))

pub is_ground-returns-then-is_ground : goal.is_ground-returns-then-is_ground
is_ground-returns-then-is_ground g t c =
    let known : c.is_ground.result ≡ true = c.if-is_ground.true in
    let ground : is_ground_trees c.in-Node.args.now ≡ true = sym c.is_ground.ensures ∙ known in
    known ∙ ground_root c.args.self.now (view c.args.term.now) c.in-Node.field-0.0 c.in-Node.args.now c.in-Node.ensures.0 ground
