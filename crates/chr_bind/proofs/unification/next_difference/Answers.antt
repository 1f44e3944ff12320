use Rattle.std.proofs.Common.{◌∙◌, ap, arith, length, subst}
use Rattle.chr_semantics.specs.Mgu.{both}
use Rattle.chr_bind.specs.Agenda.{Differs, IsBelowAgenda, agenda_size, lists_apart, rest_apart}
use Rattle.chr_bind.specs.Chains.{subst_of}
use Rattle.chr_bind.proofs.Agenda.{agenda_size-last, below_agenda-parts, rest_apart-last}
use Rattle.chr_bind.proofs.unification.next_difference.Goals as goal

pub advance-requires-clause-agenda : goal.advance-requires-clause-agenda
advance-requires-clause-agenda g c = (below_agenda-parts (length c.args.chains.now.links.now) _ _ (subst (IsBelowAgenda _) c.in-Some.ensures.items c.loop-lefts.invariant.1)).0

pub advance-requires-clause-lefts : goal.advance-requires-clause-lefts
advance-requires-clause-lefts g c = (below_agenda-parts (length c.args.chains.now.links.now) _ _ (subst (IsBelowAgenda _) c.in-Some.ensures.items c.loop-lefts.invariant.1)).1

pub advance-requires-clause-rights : goal.advance-requires-clause-rights
advance-requires-clause-rights g c = (below_agenda-parts (length c.args.chains.now.links.now) _ _ (subst (IsBelowAgenda _) c.in-Some.ensures.items c.loop-lefts.invariant.1)).2

pub loop-lefts-smaller : goal.loop-lefts-smaller
loop-lefts-smaller g c =
    let s = subst_of c.args.chains.now in
    let popped = ap (agenda_size s) c.in-Some.ensures.items ∙ agenda_size-last s c.pop.new.self.items (c.in-Some.lefts, c.in-Some.rights) in
    omega (arith, popped, c.in_ok-advance.ensures.smaller)

pub loop-lefts-preserved : goal.loop-lefts-preserved
loop-lefts-preserved g c =
    let s = subst_of c.args.chains.now in
    let popped = ap (rest_apart s) c.in-Some.ensures.items ∙ rest_apart-last s c.pop.new.self.items (c.in-Some.lefts, c.in-Some.rights) in
    let step = subst (Differs c.args.chains.now.links.now (subst_of c.args.chains.now) (both (lists_apart s c.in-Some.lefts.now c.in-Some.rights.now) (rest_apart s c.pop.new.self.items)) c.advance.new.agenda.items) c.in-None.is c.in_ok-advance.ensures.step in
    (c.loop-lefts.invariant.0 ∙ popped ∙ step, c.advance.ensures.below)

pub returns-in-Clash-clause-step : goal.returns-in-Clash-clause-step
returns-in-Clash-clause-step g c =
    let s = subst_of c.args.chains.now in
    let popped = ap (rest_apart s) c.in-Some.ensures.items ∙ rest_apart-last s c.pop.new.self.items (c.in-Some.lefts, c.in-Some.rights) in
    let step = subst (Differs c.args.chains.now.links.now (subst_of c.args.chains.now) (both (lists_apart s c.in-Some.lefts.now c.in-Some.rights.now) (rest_apart s c.pop.new.self.items)) c.advance.new.agenda.items) c.in-Clash.is c.in_ok-advance.ensures.step in
    c.loop-lefts.invariant.0 ∙ popped ∙ step

pub returns-in-Bind-clause-step : goal.returns-in-Bind-clause-step
returns-in-Bind-clause-step g c =
    let s = subst_of c.args.chains.now in
    let popped = ap (rest_apart s) c.in-Some.ensures.items ∙ rest_apart-last s c.pop.new.self.items (c.in-Some.lefts, c.in-Some.rights) in
    let step = subst (Differs c.args.chains.now.links.now (subst_of c.args.chains.now) (both (lists_apart s c.in-Some.lefts.now c.in-Some.rights.now) (rest_apart s c.pop.new.self.items)) c.advance.new.agenda.items) c.in-Bind.is c.in_ok-advance.ensures.step in
    (c.loop-lefts.invariant.0 ∙ popped ∙ step.0, step.1)
