use Rattle.std.proofs.Common.{arith}
use Rattle.chr_semantics.specs.Subst.{apply}
use Rattle.chr_term.specs.TermView.{view}
use Rattle.chr_bind.specs.Chains.{subst_of}
use Rattle.chr_bind.proofs.Agenda.{size_positive}
use Rattle.chr_bind.proofs.unification.descend.Goals as goal

pub returns-in_err-put-in-Arguments-clause-below : goal.returns-in_err-put-in-Arguments-clause-below
returns-in_err-put-in-Arguments-clause-below g c = c.put.ensures.below _ c.in-Arguments.ensures.2 c.in-Arguments.ensures.3 c.requires.agenda

pub returns-in_ok-put-in-Arguments-clause-below : goal.returns-in_ok-put-in-Arguments-clause-below
returns-in_ok-put-in-Arguments-clause-below g c = c.put.ensures.below _ c.in-Arguments.ensures.2 c.in-Arguments.ensures.3 c.requires.agenda

pub returns-in-Same-clause-smaller : goal.returns-in-Same-clause-smaller
returns-in-Same-clause-smaller g c = let some = size_positive (apply (subst_of c.args.chains.now) (view c.args.left.now)) in omega (arith, some)

pub returns-in-Clash-clause-smaller : goal.returns-in-Clash-clause-smaller
returns-in-Clash-clause-smaller g c = let some = size_positive (apply (subst_of c.args.chains.now) (view c.args.left.now)) in omega (arith, some)

pub returns-in-Bind-clause-smaller : goal.returns-in-Bind-clause-smaller
returns-in-Bind-clause-smaller g c = let some = size_positive (apply (subst_of c.args.chains.now) (view c.args.left.now)) in omega (arith, some)
