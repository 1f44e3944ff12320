use Rattle.std.proofs.Common.{◌≡◌, ◌∙◌, ◌++◌, ap, arith, sym, true}
use Rattle.chr_semantics.proofs.Ground.{ground_stays_all}
use Rattle.chr_semantics.specs.Subst.{apply, value_at}
use Rattle.chr_semantics.specs.Tree.{is_ground_trees}
use Rattle.chr_term.specs.TermView.{view}
use Rattle.chr_bind.specs.Chains.{subst_of}
use Rattle.chr_term.specs.Replaced.{tree_at}
use Rattle.chr_term.proofs.Lists.{replaced_whole, size_item}
use Rattle.chr_term.proofs.Replaced.{one_more}
use Rattle.chr_bind.proofs.chains.Chains.+resolve.Goals as goal

pub replaced_all-replaced-requires : goal.replaced_all-replaced-requires
replaced_all-replaced-requires g t c κs within =
    let smaller = size_item (value_at (subst_of c.args.self.now)) c.args.terms.now c.loop-i.i c.index-terms-i.result c.loop-i-test.true c.index-terms-i.is in
    (omega (arith, smaller, c.decreases), (within, c.requires))

pub replaced_all-loop-i-preserved : goal.replaced_all-loop-i-preserved
replaced_all-loop-i-preserved g t c =
    let terms = c.args.terms.now in
    c.in_ok-push_replaced.ensures
    ∙ ap (λ l. l ++ tree_at terms c.loop-i.i c.in_ok-replaced.replaced) c.loop-i.invariant
    ∙ one_more (λ t. apply (subst_of c.args.self.now) (view t)) terms c.loop-i.i c.index-terms-i.result c.in_ok-replaced.replaced c.loop-i-test.true c.index-terms-i.is c.in_ok-replaced.ensures

pub replaced_all-returns : goal.replaced_all-returns
replaced_all-returns g t c = replaced_whole (value_at (subst_of c.args.self.now)) c.loop-i.made c.args.terms.now _ c.loop-i.invariant c.loop-i-test.false

pub replaced_args-returns-then-is_ground : goal.replaced_args-returns-then-is_ground
replaced_args-returns-then-is_ground g t c =
    let known : c.is_ground.result ≡ true = c.if-is_ground.true in
    let ground : is_ground_trees c.args.args.now ≡ true = sym c.is_ground.ensures ∙ known in
    sym (ground_stays_all (value_at (subst_of c.args.self.now)) c.args.args.now ground)
