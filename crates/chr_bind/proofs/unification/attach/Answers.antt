use Rattle.std.proofs.Common.{◌∙◌, ap, subst, sym}
use Rattle.chr_semantics.specs.Subst.{apply}
use Rattle.chr_term.specs.TermView.{view}
use Rattle.chr_bind.specs.Chains.{pairs_in, solution}
use Rattle.chr_bind.specs.Terms.{IsNoVar}
use Rattle.chr_bind.proofs.Binds.{attached_bound, attached_joined, length-pairs}
use Rattle.chr_bind.proofs.unification.attach.Goals as goal

pub returns-in-Var-clause-bound : goal.returns-in-Var-clause-bound
returns-in-Var-clause-bound g c =
    let s = solution (pairs_in c.args.made.now c.args.added.now) in
    let stands = sym c.end-other.ensures.same ∙ sym (ap (apply s) (ap view c.in-Var.is)) in
    attached_joined c.args.links.now c.join.new.links _ c.args.binding.now.end c.args.binding.now.name _ _ (view c.args.binding.now.term.now) c.requires.sound c.requires.end c.requires.absent c.requires.below (length-pairs c.args.made.now c.args.added.now) c.end-other.ensures.last c.end-other.ensures.known stands c.join.ensures.joined

pub returns-in-Int-clause-bound : goal.returns-in-Int-clause-bound
returns-in-Int-clause-bound g c =
    attached_bound c.args.links.now c.change.new.links _ c.args.binding.now.end c.args.binding.now.name _ (view c.args.binding.now.term.now) c.requires.sound c.requires.end c.requires.absent c.requires.below (length-pairs c.args.made.now c.args.added.now) (subst IsNoVar (sym (ap view c.in-Int.is)) tt) c.change.ensures.links

pub returns-in-Node-clause-bound : goal.returns-in-Node-clause-bound
returns-in-Node-clause-bound g c =
    attached_bound c.args.links.now c.change-in-Node.new.links _ c.args.binding.now.end c.args.binding.now.name _ (view c.args.binding.now.term.now) c.requires.sound c.requires.end c.requires.absent c.requires.below (length-pairs c.args.made.now c.args.added.now) (subst IsNoVar (sym (ap view c.in-Node.is)) tt) c.change-in-Node.ensures.links
