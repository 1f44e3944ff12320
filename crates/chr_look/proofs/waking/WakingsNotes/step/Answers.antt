use Rattle.std.proofs.Common.{◌≡◌, ◌∙◌, ◌++◌, ◌∷◌, [], ap, cond, subst}
use Rattle.chr_semantics.specs.Life.{wakes}
use Rattle.chr_semantics.specs.State.{start}
use Rattle.chr_machine.specs.Model.{Model, state_in}
use Rattle.chr_look.specs.Watching.{machine_in}
use Rattle.chr_look.proofs.Woken.{woken_later}
use Rattle.chr_look.proofs.waking.WakingsNotes.step.Goals as goal

pub returns-in_ok-note-in-Moved-clause-noted : goal.returns-in_ok-note-in-Moved-clause-noted
returns-in_ok-note-in-Moved-clause-noted g c p q w before =
    let m = machine_in c.args.watched.now in
    let n = machine_in c.step.new.self in
    let moves = rw c.in-Moved.is at c.in_ok-step.ensures.steps in
    let woken = c.is_woken_next-is_woken.result in
    let is = subst (λ (x : Model). woken ≡ wakes (state_in x) c.args.id.now.0) c.machine.ensures c.is_woken_next-is_woken.ensures in
    let at = c.steps.ensures.value ∙ ap (λ (x : Model). x.steps) c.machine-in-Moved.ensures in
    let more = c.in_ok-note-in-Moved.ensures ∙ ap (λ k. c.args.self.now.at.items ++ cond woken (k ∷ []) []) at in
    woken_later p (start q) (state_in m) c.args.id.now.0 m.steps n.steps woken c.args.self.now.at.items c.note.new.self.at.items w.state_is moves.steps_are is more before
