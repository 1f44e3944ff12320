use Rattle.std.proofs.Common.{None, Some, ◌∙◌, ap, cond, sym}
use Rattle.chr_term.specs.TermView.{view}
use Rattle.chr_look.proofs.Variables.{first_bound_is}
use Rattle.chr_look.proofs.hindrances.+bound.Goals as goal

pub bound-returns-then-resolves_to : goal.bound-returns-then-resolves_to
bound-returns-then-resolves_to g t c =
    sym (first_bound_is c.args.bindings.now.subst c.requires c.in-Var.x (view c.args.term.now) c.resolves_to.result (ap view c.in-Var.is) c.resolves_to.ensures ∙ ap (λ b. cond b None (Some c.in-Var.x)) c.if-resolves_to.true)

pub bound-returns-else-resolves_to : goal.bound-returns-else-resolves_to
bound-returns-else-resolves_to g t c =
    sym (first_bound_is c.args.bindings.now.subst c.requires c.in-Var.x (view c.args.term.now) c.resolves_to.result (ap view c.in-Var.is) c.resolves_to.ensures ∙ ap (λ b. cond b None (Some c.in-Var.x)) c.if-resolves_to.false)
