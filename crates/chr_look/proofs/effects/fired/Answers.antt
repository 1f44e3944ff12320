use Rattle.std.proofs.Common.{◌≡◌, ◌∙◌, ◌∷◌, ◌++◌, [], List, ap, cond, length, subst, sym, ℕ}
use Rattle.std.specs.Prelude.{slice_get}
use Rattle.chr_semantics.specs.Changes.{Entries}
use Rattle.chr_semantics.specs.Effect.{Effect, IsEffect, fires}
use Rattle.chr_semantics.specs.Search.{ids_of}
use Rattle.chr_semantics.specs.State.{Element, State}
use Rattle.chr_semantics.specs.Step.{body_of}
use Rattle.chr_semantics.proofs.EffectKinds.{fires_is}
use Rattle.chr_look.specs.EffectView.{kept_of}
use Rattle.chr_look.proofs.Tops.{last_fired, left_below, none_fired}
use Rattle.chr_look.proofs.effects.fired.Goals as goal

pub returns-in-Some : goal.returns-in-Some
returns-in-Some g c p s now high kind =
    let f = fires_is p s c.args.stays kind in
    let made = now ∙ f.steps in
    let body = body_of f.rule f.list s.next_var in
    let entries = c.list.ensures ∙ ap (λ (e : Entries). e.list) c.history.ensures ∙ ap (λ (t : State). t.history) made in
    let entry = last_fired c.list.result.now c.in-Some.entry.now s.history (f.number, ids_of f.list) c.in-Some.ensures.value entries in
    let rest = cond c.args.stays (f.top ∷ f.rest) f.rest in
    let stack = c.stack.ensures ∙ ap (λ (t : State). t.stack) made ∙ ap (λ b. body ++ cond b (f.top ∷ f.rest) f.rest) f.kept in
    let number : f.number ≡ c.in-Some.entry.now.rule = sym (ap (λ (x : ℕ × List ℕ). x.0) entry) in
    let ids : ids_of f.list ≡ c.in-Some.entry.now.ids = sym (ap (λ (x : ℕ × List ℕ). x.1) entry) in
    let kept = sym (ap kept_of (ap (slice_get p) (sym number) ∙ f.of_program)) in
    let goals = sym (c.above-goals.ensures body rest stack (left_below c.args.stays s.stack f.top f.rest c.args.height f.stack high ∙ sym c.below.ensures)) in
    subst (IsEffect p s) (λ k. fires (number k) (kept k) (ids k) (goals k) c.args.stays) f.effect

pub returns-in-None : goal.returns-in-None
returns-in-None g c p s now high kind =
    let f = fires_is p s c.args.stays kind in
    none_fired c.list.result.now s.history (f.number, ids_of f.list) c.in-None.ensures.value (c.list.ensures ∙ ap (λ (e : Entries). e.list) c.history.ensures ∙ ap (λ (t : State). t.history) (now ∙ f.steps))
