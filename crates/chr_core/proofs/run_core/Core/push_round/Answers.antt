use Rattle.std.proofs.Common.{List, [], ap, arith, false, length, map, replicate, subst, sym, ℕ, ◌++◌, ◌==◌, ◌∙◌, ◌∷◌, ◌≡◌}
use Rattle.std.proofs.lemmas.List.{length-map, length-replicate, map-append}
use Rattle.chr_semantics.specs.Calls.{rise_by_calls}
use Rattle.chr_semantics.specs.Schedule.{Event}
use Rattle.chr_semantics.specs.Snapshot.{snapshot_of}
use Rattle.chr_semantics.specs.State.{State, start}
use Rattle.chr_semantics.specs.Step.{after}
use Rattle.chr_find.specs.SnapshotView.{IsSnapshot}
use Rattle.chr_rules.specs.RuleView.{query_view}
use Rattle.chr_schedule.specs.EventView.{event_view}
use Rattle.chr_schedule.specs.declared.event.Event.TheVariants.{Publish}
use Rattle.chr_laws.specs.Rounds.{IsRound, Round}
use Rattle.chr_laws.specs.Stands.{Core, Stands}
use Rattle.chr_laws.proofs.Stands.{stands_law}
use Rattle.chr_shelf.specs.Seat.{place_of, places_in, shot_of, shots_in}
use Rattle.chr_machine.specs.MachineView.{machine_view}
use Rattle.chr_core.specs.CoreView.{core_in}
use Rattle.chr_core.specs.PlaceView.{number_at, or_number}
use Rattle.chr_core.specs.RoundView.{round_view, rounds_view}
use Rattle.chr_core.proofs.Made.{is_round_of}
use Rattle.chr_core.proofs.Numbered.{numbered_more}
use Rattle.chr_core.proofs.Shown.{shown_more}
use Rattle.chr_core.proofs.run_core.Core.push_round.Goals as goal

pub invariant_of-self : goal.invariant_of-self
invariant_of-self g c =
    let old = c.args.self.now in
    let p = g.J.RunName.rules in
    let r = query_view old.query in
    let m = machine_view old.machine in
    let d = round_view c.args.round in
    let shot = shot_of c.args.ticket in
    let at_is : d.at ≡ m.steps = ap (λ (x : Round). x.at) c.requires.round in
    let new_rounds = ap rounds_view c.push_reserved.ensures.items ∙ map-append round_view old.rounds.items (c.args.round ∷ []) in
    let new_events = ap (map event_view) c.push_reserved-3.ensures.items ∙ map-append event_view old.events.items (Publish ∷ []) in
    let new_shots = ap shots_in c.push_reserved-2.ensures.items ∙ map-append shot_of old.tickets.items (c.args.ticket ∷ []) in
    let new_places = ap places_in c.push_reserved-2.ensures.items ∙ map-append place_of old.tickets.items (c.args.ticket ∷ []) in
    let is_round = subst (IsRound p (rise_by_calls p) (start r)) (sym c.requires.round) (is_round_of m.names p r m old.at) in
    let unkept : d.flags ≡ replicate (length d.flags) false =
    subst (λ (x : Round). x.flags ≡ replicate (length x.flags) false) (sym c.requires.round)
    (sym (ap (λ (n : ℕ). replicate n false) (length-replicate _ false))) in
    let is_shown = subst (λ (s : State). IsSnapshot shot (snapshot_of p s)) (old.at.run.state_is ∙ ap (after p (start r)) (sym at_is)) c.requires.shown in
    let number_is : c.len-number.result ≡ length (places_in old.tickets.items) =
    let a = length-map old.rounds.items round_view in
    let b = length-map old.tickets.items shot_of in
    let e = length-map old.tickets.items place_of in
    let same = old.shown.same in omega (arith, c.len-number.ensures, a, b, e, same) in
    record {
      at = old.at;
      stands = rw (new_events, new_rounds) (stands_law.publishes p (rise_by_calls p) (start r) (map event_view old.events.items) (core_in old) d old.stands is_round at_is unkept);
      shown = rw (new_rounds, new_shots) (shown_more p (start r) (rounds_view old.rounds.items) (shots_in old.tickets.items) old.shown d shot is_shown);
      numbered = rw new_places (numbered_more (number_at old.by_place) (number_at c.put_reserved.new.self) (places_in old.tickets.items) (place_of c.args.ticket) old.numbered
          (λ y. c.put_reserved.ensures y ∙ (λ k. or_number (number_at old.by_place y) (c.place.ensures k == y) (number_is k))));
    }
