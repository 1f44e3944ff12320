use Rattle.std.proofs.Common.{Option, Some, ap, arith, sym, ℕ, ◌∙◌, ◌≡◌}
use Rattle.std.proofs.lemmas.Result.{IfOk-weaker}
use Rattle.chr_semantics.specs.Schedule.{progress, took, took_at, took_from}
use Rattle.chr_semantics.specs.State.{start}
use Rattle.chr_rules.specs.RuleView.{query_view}
use Rattle.chr_schedule.specs.EventView.{events_view}
use Rattle.chr_shelf.specs.Seat.{ids_of, place_of, places_in, shot_of, shots_in, task_of}
use Rattle.chr_core.specs.PlaceView.{number_at}
use Rattle.chr_core.specs.CoreView.{AllowsArrival, took_view}
use Rattle.chr_core.specs.RoundView.{rounds_view}
use Rattle.chr_core.proofs.Allowed.{allows, there}
use Rattle.chr_core.proofs.Arrived.{placed}
use Rattle.chr_core.proofs.Tickets.{place_is, shot_at, within}
use Rattle.chr_core.proofs.run_core.Core.arrive.Goals as goal

pub index-requires : goal.index-requires
index-requires g c =
    let old = c.args.self.now in
    let place = place_of c.args.answer.ticket in
    let number : number_at old.by_place place ≡ Some c.in-Some.round = sym (ap (number_at old.by_place) c.place.ensures) ∙ sym c.get.ensures ∙ c.in-Some.is in
    let lt = within old.tickets.items c.in-Some.round (number_at old.by_place) place old.numbered number in omega (arith, lt)

pub agree-requires-clause-place : goal.agree-requires-clause-place
agree-requires-clause-place g c =
    let old = c.args.self.now in
    let place = place_of c.args.answer.ticket in
    let number : number_at old.by_place place ≡ Some c.in-Some.round = sym (ap (number_at old.by_place) c.place.ensures) ∙ sym c.get.ensures ∙ c.in-Some.is in
    place_is old.tickets.items c.in-Some.round (number_at old.by_place) place old.numbered number c.index.result.now c.index.ensures ∙ sym (ap place_of c.ticket.ensures)

pub take-requires : goal.take-requires
take-requires g c =
    let old = c.args.self.now in
    let place = place_of c.args.answer.ticket in
    let number : number_at old.by_place place ≡ Some c.in-Some.round = sym (ap (number_at old.by_place) c.place.ensures) ∙ sym c.get.ensures ∙ c.in-Some.is in
    let lt = within old.tickets.items c.in-Some.round (number_at old.by_place) place old.numbered number in
    record { shown = shot_at old.tickets.items c.in-Some.round c.index.result.now lt c.index.ensures ∙ ap (λ s. Some s) (c.agree.ensures ∙ ap shot_of c.ticket.ensures) }

pub returns-in-Some-clause-took : goal.returns-in-Some-clause-took
returns-in-Some-clause-took g c =
    let old = c.args.self.now in
    let q = start (query_view old.query) in
    let h = progress g.J.RunName.rules q (events_view old.events.items) in
    let i = c.in-Some.round in
    let x = c.args.answer.index in
    let place = place_of c.args.answer.ticket in
    let number : number_at old.by_place place ≡ Some i = sym (ap (number_at old.by_place) c.place.ensures) ∙ sym c.get.ensures ∙ c.in-Some.is in
    let is : took_at h (places_in old.tickets.items) place x ≡ took h i x = ap (took_from h x) (sym (old.numbered place) ∙ number) in
    IfOk-weaker c.take.result (λ t. took_view t ≡ took h i x) (λ t. took_view t ≡ took_at h (places_in old.tickets.items) place x) (λ t e. e ∙ sym is) c.take.ensures.took

pub returns-in-Some-clause-allowed : goal.returns-in-Some-clause-allowed
returns-in-Some-clause-allowed g c =
    let old = c.args.self.now in
    let p = g.J.RunName.rules in
    let r = query_view old.query in
    let h = progress p (start r) (events_view old.events.items) in
    let i = c.in-Some.round in
    let a = c.args.answer in
    let rounds = rounds_view old.rounds.items in
    let place = place_of a.ticket in
    let number : number_at old.by_place place ≡ Some i = sym (ap (number_at old.by_place) c.place.ensures) ∙ sym c.get.ensures ∙ c.in-Some.is in
    let lt = within old.tickets.items i (number_at old.by_place) place old.numbered number in
    let seen = shot_at old.tickets.items i c.index.result.now lt c.index.ensures ∙ ap (λ s. Some s) (c.agree.ensures ∙ ap shot_of c.ticket.ensures) in
    let is = placed p r rounds (shots_in old.tickets.items) old.shown i (shot_of a.ticket) seen a.index (task_of a) (ids_of a) a.of_run in
    let allowed = there p (start r) h rounds (record { round = i; index = a.index; task = task_of a; ids = ids_of a }) old.stands.holds.ats_are is in
    IfOk-weaker c.take.result (λ t. took_view t ≡ took h i a.index) (λ t. AllowsArrival p (start r) h a.index t) (λ t e. allows p (start r) h i a.index t e allowed) c.take.ensures.took
