use Rattle.std.proofs.Common.{◌∙◌, ◌+◌, List, subst, sym}
use Rattle.chr_semantics.specs.Schedule.{Event, progress}
use Rattle.chr_core.specs.CoreView.{events_of, start_of}
use Rattle.chr_policy.specs.Standing.{IsReady}
use Rattle.chr_policy.proofs.Standings.{ready_counted, ready_passed, ready_published}
use Rattle.chr_policy.proofs.coordinator.Coordinator.share.Goals as goal

pub returns-in-Ok-clause-ready : goal.returns-in-Ok-clause-ready
returns-in-Ok-clause-ready g c =
    let old = c.args.self.now in
    let p = g.J.RunName.rules in
    let q = start_of old.core in
    let at = progress p q (events_of old.core) in
    subst (λ (es : List Event). IsReady p q old.workers old.skipped at es) (sym c.in-Ok.ensures.events)
    (ready_published p q (events_of old.core) old.workers old.skipped c.requires.workers c.requires.rests.rests (sym c.has_place.ensures ∙ c.if-not-has_place.false) c.in-Ok.ensures.few)

pub returns-in-Err-clause-ready : goal.returns-in-Err-clause-ready
returns-in-Err-clause-ready g c =
    let old = c.args.self.now in
    let p = g.J.RunName.rules in
    let q = start_of old.core in
    let at = progress p q (events_of old.core) in
    subst (λ (es : List Event). IsReady p q old.workers (old.skipped + 1) at es) (sym c.in-Err.ensures.err.events_are)
    (ready_counted p q (events_of old.core) old.workers old.skipped c.requires.workers c.requires.rests.rests (sym c.has_place.ensures ∙ c.if-not-has_place.false))

pub returns-then-not-has_place-clause-ready : goal.returns-then-not-has_place-clause-ready
returns-then-not-has_place-clause-ready g c =
    let old = c.args.self.now in
    ready_passed g.J.RunName.rules (start_of old.core) (events_of old.core) old.workers old.skipped c.requires.workers c.requires.rests.rests (sym c.has_place.ensures ∙ c.if-not-has_place.true)
