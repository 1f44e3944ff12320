use Rattle.std.proofs.Common.{IsTrue, ◌↔◌, ◌≡◌, ◌∙◌, ◌++◌, ◌∷◌, [], List, ap, inr, not, subst, sym, ℕ}
use Rattle.std.proofs.lemmas.List.{map-append}
use Rattle.chr_semantics.specs.Subst.{Subst, value_at}
use Rattle.chr_semantics.specs.Tree.{var}
use Rattle.chr_machine.specs.MachineView.{machine_view}
use Rattle.chr_machine.specs.Model.{state_in}
use Rattle.chr_term.specs.TermView.{view}
use Rattle.chr_look.specs.EffectView.{AreNoted, values_view}
use Rattle.chr_look.proofs.Opened.{bound_is, noted_more, noted_same}
use Rattle.chr_look.proofs.effects.note_value.Goals as goal

pub returns-then-resolves_to : goal.returns-then-resolves_to
returns-then-resolves_to g c seen solved noted =
    let s = (state_in (machine_view c.args.machine.now)).subst in
    noted_same s seen _ noted c.args.number (inr (bound_is s solved c.args.number c.resolves_to.result (subst (λ (b : Subst). IsTrue c.resolves_to.result ↔ (value_at b c.args.number ≡ var c.args.number)) c.bindings.ensures.subst c.resolves_to.ensures) ∙ ap not c.if-resolves_to.true))

pub returns : goal.returns
returns g c seen solved noted =
    let s = (state_in (machine_view c.args.machine.now)).subst in
    let bound = bound_is s solved c.args.number c.resolves_to.result (subst (λ (b : Subst). IsTrue c.resolves_to.result ↔ (value_at b c.args.number ≡ var c.args.number)) c.bindings.ensures.subst c.resolves_to.ensures) ∙ ap not c.if-resolves_to.false in
    let pushed = ap values_view c.in_ok-push.ensures.items ∙ map-append _ c.args.values.now.items _ in
    subst (λ (new : Subst). AreNoted s (seen ++ c.args.number ∷ []) new) (sym pushed) (noted_more s seen _ noted c.args.number (view c.in_ok-resolve.field-0) bound (sym (c.in_ok-resolve.ensures ∙ ap (λ (b : Subst). value_at b c.args.number) c.bindings-2.ensures.subst)))
