use Rattle.std.proofs.Common.{ap, arith, refl, sym}
use Rattle.std.specs.Prelude.{is_some}
use Rattle.chr_semantics.specs.Mgu.{mgu}
use Rattle.chr_term.specs.TermView.{view}
use Rattle.chr_semantics.proofs.Below.{below_more}
use Rattle.chr_bind.proofs.Renamed.{some_unifier}
use Rattle.chr_bind.proofs.renaming.have_unifier.Goals as goal

pub unify-requires-clause-left : goal.unify-requires-clause-left
unify-requires-clause-left g c = below_more _ _ _ (omega (arith, c.in_ok-fresh.ensures.len, c.new-bindings.ensures.len)) c.requires.left

pub unify-requires-clause-right : goal.unify-requires-clause-right
unify-requires-clause-right g c = below_more _ _ _ (omega (arith, c.in_ok-fresh.ensures.len, c.new-bindings.ensures.len)) c.requires.right

pub returns-in-Same : goal.returns-in-Same
returns-in-Same g c =
    let unified = rw (c.in_ok-fresh.ensures.subst, c.new-bindings.ensures.subst, c.in-Same.is) at c.in_ok-unify.ensures.unified in
    some_unifier (view c.args.left.now) (view c.args.right.now) (mgu _ (view c.args.left.now) (view c.args.right.now)) unified.0 refl

pub returns-in-Bound : goal.returns-in-Bound
returns-in-Bound g c =
    let unified = rw (c.in_ok-fresh.ensures.subst, c.new-bindings.ensures.subst, c.in-Bound.is) at c.in_ok-unify.ensures.unified in
    sym (ap is_some unified.0)

pub returns : goal.returns
returns g c =
    let unified = rw (c.in_ok-fresh.ensures.subst, c.new-bindings.ensures.subst, c.in-Clash.is) at c.in_ok-unify.ensures.unified in
    sym (ap is_some unified.0)
