use Rattle.std.proofs.Common.{◌∙◌, None, ap, subst, sym}
use Rattle.chr_semantics.specs.Changes.{Entries}
use Rattle.chr_semantics.specs.State.{State}
use Rattle.chr_semantics.proofs.EffectKinds.{enters_is, leaves_is, passes_is, wakes_is}
use Rattle.chr_semantics.proofs.Soundness.{sound_step}
use Rattle.chr_look.specs.EffectView.{AreOpen}
use Rattle.chr_look.proofs.Befores.{height_seen, kind_at, kind_seen, reached_kind, sound_reached}
use Rattle.chr_look.proofs.effects.Before.effect.Goals as goal

pub returns-in_default : goal.returns-in_default
returns-in_default g c p s reached runs before now =
    reached_kind p s reached runs (kind_seen p s c.args.self.now c.list.result.now None before (c.list.ensures ∙ ap (λ (e : Entries). e.list) c.history.ensures ∙ ap (λ (t : State). t.history) now) c.in_default.ensures)

pub returns-in-Activate : goal.returns-in-Activate
returns-in-Activate g c p s reached runs before now =
    enters_is p s (kind_at p s c.args.self.now c.list.result.now c.kind_of.result _ _ before (c.list.ensures ∙ ap (λ (e : Entries). e.list) c.history.ensures ∙ ap (λ (t : State). t.history) now) c.kind_of.ensures c.in-Some.is c.in-Activate.is)

pub returns-in-Reactivate : goal.returns-in-Reactivate
returns-in-Reactivate g c p s reached runs before now =
    wakes_is p s (kind_at p s c.args.self.now c.list.result.now c.kind_of.result _ _ before (c.list.ensures ∙ ap (λ (e : Entries). e.list) c.history.ensures ∙ ap (λ (t : State). t.history) now) c.kind_of.ensures c.in-Some.is c.in-Reactivate.is)

pub returns-in-Default : goal.returns-in-Default
returns-in-Default g c p s reached runs before now =
    passes_is p s (kind_at p s c.args.self.now c.list.result.now c.kind_of.result _ _ before (c.list.ensures ∙ ap (λ (e : Entries). e.list) c.history.ensures ∙ ap (λ (t : State). t.history) now) c.kind_of.ensures c.in-Some.is c.in-Default.is)

pub returns-in-Drop : goal.returns-in-Drop
returns-in-Drop g c p s reached runs before now =
    leaves_is p s (kind_at p s c.args.self.now c.list.result.now c.kind_of.result _ _ before (c.list.ensures ∙ ap (λ (e : Entries). e.list) c.history.ensures ∙ ap (λ (t : State). t.history) now) c.kind_of.ensures c.in-Some.is c.in-Drop.is)

pub returns-in-Propagate : goal.returns-in-Propagate
returns-in-Propagate g c p s reached runs before now =
    c.fired.ensures p s now (height_seen p s c.args.self.now before) (kind_at p s c.args.self.now c.list.result.now c.kind_of.result _ _ before (c.list.ensures ∙ ap (λ (e : Entries). e.list) c.history.ensures ∙ ap (λ (t : State). t.history) now) c.kind_of.ensures c.in-Some.is c.in-Propagate.is)

pub returns-in-Simplify : goal.returns-in-Simplify
returns-in-Simplify g c p s reached runs before now =
    c.fired-in-Simplify.ensures p s now (height_seen p s c.args.self.now before) (kind_at p s c.args.self.now c.list.result.now c.kind_of.result _ _ before (c.list.ensures ∙ ap (λ (e : Entries). e.list) c.history.ensures ∙ ap (λ (t : State). t.history) now) c.kind_of.ensures c.in-Some.is c.in-Simplify.is)

pub returns-in_ok-told-in-Solve : goal.returns-in_ok-told-in-Solve
returns-in_ok-told-in-Solve g c p s reached runs before now =
    let sound = sound_reached p s reached in
    let numbers = subst (AreOpen s) (sym c.as_slice-numbers.ensures.value) before.open_are in
    c.in_ok-told-in-Solve.ensures p s now (height_seen p s c.args.self.now before) sound.solved (sound_step p s sound).solved numbers (kind_at p s c.args.self.now c.list.result.now c.kind_of.result _ _ before (c.list.ensures ∙ ap (λ (e : Entries). e.list) c.history.ensures ∙ ap (λ (t : State). t.history) now) c.kind_of.ensures c.in-Some.is c.in-Solve.is)
