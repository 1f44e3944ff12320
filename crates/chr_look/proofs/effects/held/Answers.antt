use Rattle.std.proofs.Common.{◌≡◌, ◌∙◌, ◌∷◌, ◌++◌, [], List, ap, cond, false, length, map, refl, subst, sym, ℕ}
use Rattle.chr_semantics.specs.Match.{Row}
use Rattle.chr_semantics.specs.Effect.{AreGiven, Effect, IsEffect, IsTold, binds, woken_ids}
use Rattle.chr_semantics.specs.State.{Element, State, Status, goal as on, known}
use Rattle.chr_semantics.specs.Step.{solve, step, woken_elements}
use Rattle.chr_semantics.specs.Subst.{IsSolved, Subst}
use Rattle.chr_semantics.proofs.EffectKinds.{held_told, holds_is, told_is}
use Rattle.chr_look.specs.EffectView.{AreNoted, values_view, waiting_ids}
use Rattle.chr_look.proofs.Given.{are_given}
use Rattle.chr_look.proofs.Tops.{ids_waiting, left_below}
use Rattle.chr_look.proofs.effects.held.Goals as goal

pub returns : goal.returns
returns g c p s now high solved solved_now opens kind held =
    let h = holds_is p s kind held in
    let new = values_view c.in_ok-values_of.field-0.items in
    let noted = subst (λ (t : State). AreNoted t.subst c.args.numbers.now new) (now ∙ h.steps) (c.in_ok-values_of.ensures (subst (λ (t : State). IsSolved t.subst) (sym now) solved_now)) in
    let given = subst (λ (t : State). AreGiven s.subst t.subst new) (sym h.steps) (are_given s h.rest h.told solved c.args.numbers.now new noted (opens h.told h.rest h.stack)) in
    let top = c.above-woken.ensures (woken_elements s) h.rest (c.stack.ensures ∙ ap (λ (t : State). t.stack) now ∙ h.woken) (left_below false s.stack (on h.told) h.rest c.args.height h.stack high ∙ sym c.below.ensures) in
    let ids = ap waiting_ids top ∙ ids_waiting _ in
    told_is p s _ kind (held_told s (step p s) (step p s).status new _ held (ap (binds new) ids) given)
