use Rattle.std.proofs.Common.{IfOk, length, subst}
use Rattle.chr_term.specs.TermView.{trees_view}
use Rattle.chr_bind.specs.Agenda.{Differs}
use Rattle.chr_bind.specs.Chains.{subst_of}
use Rattle.chr_semantics.specs.Bounds.{AreBelow}
use Rattle.chr_bind.proofs.Agenda.{first_before}
use Rattle.chr_bind.proofs.unification.advance.Goals as goal

pub returns-in_err-put-in-Some-Some-clause-below : goal.returns-in_err-put-in-Some-Some-clause-below
returns-in_err-put-in-Some-Some-clause-below g c =
    let lefts = subst (λ ts. AreBelow (length c.args.chains.now.links.now) (trees_view ts)) c.in-Some-Some.ensures.cases.0 c.requires.lefts in
    let rights = subst (λ ts. AreBelow (length c.args.chains.now.links.now) (trees_view ts)) c.in-Some-Some.ensures'.cases.0 c.requires.rights in
    c.put.ensures.below _ lefts.1 rights.1 c.requires.agenda

pub descend-requires-clause-agenda : goal.descend-requires-clause-agenda
descend-requires-clause-agenda g c =
    let lefts = subst (λ ts. AreBelow (length c.args.chains.now.links.now) (trees_view ts)) c.in-Some-Some.ensures.cases.0 c.requires.lefts in
    let rights = subst (λ ts. AreBelow (length c.args.chains.now.links.now) (trees_view ts)) c.in-Some-Some.ensures'.cases.0 c.requires.rights in
    c.put.ensures.below _ lefts.1 rights.1 c.requires.agenda

pub returns-in_ok-put-in-Some-Some-clause-step : goal.returns-in_ok-put-in-Some-Some-clause-step
returns-in_ok-put-in-Some-Some-clause-step g c =
    let s = subst_of c.args.chains.now in
    let order = first_before s c.args.lefts.now c.args.rights.now c.in-Some-Some.left.now c.in-Some-Some.right.now c.in-Some-Some.lefts.now c.in-Some-Some.rights.now _ _ c.in-Some-Some.ensures.cases.0 c.in-Some-Some.ensures'.cases.0 (c.in_ok-put-in-Some-Some.ensures.apart s) in
    subst (λ es. IfOk c.descend.result (Differs c.args.chains.now.links.now (subst_of c.args.chains.now) es c.descend.new.agenda.items)) order c.descend.ensures.step
