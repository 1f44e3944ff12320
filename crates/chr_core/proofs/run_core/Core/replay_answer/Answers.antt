use Rattle.std.proofs.Common.{None, Option, Some, ap, length, subst, sym, ℕ, ◌<◌, ◌∙◌, ◌≡◌}
use Rattle.std.proofs.lemmas.List.{length-map}
use Rattle.chr_semantics.specs.Schedule.{kept, progress, took}
use Rattle.chr_semantics.specs.State.{start}
use Rattle.chr_rules.specs.RuleView.{query_view}
use Rattle.chr_laws.specs.Rounds.{Round}
use Rattle.chr_schedule.specs.EventView.{events_view}
use Rattle.chr_shelf.specs.Seat.{shot_of}
use Rattle.chr_core.specs.RoundView.{round_view, rounds_view}
use Rattle.chr_core.proofs.Found.{stands_at}
use Rattle.chr_core.proofs.Tickets.{shot_at}
use Rattle.chr_core.proofs.run_core.Core.replay_answer.Goals as goal

pub keep_found-requires : goal.keep_found-requires
keep_found-requires g c =
    let old = c.args.self.now in
    let p = g.J.RunName.rules in
    let q = start (query_view old.query) in
    let i = c.args.arrival.round in
    let lt : i < length old.tickets.items =
    subst (λ (n : ℕ). i < n) (sym old.shown.same ∙ length-map old.tickets.items shot_of)
    (stands_at p q (rounds_view old.rounds.items) i (progress p q (events_view old.events.items)).rounds c.args.arrival.place c.args.arrival.index old.stands.holds.ats_are c.requires.there) in record {
      shown = shot_at old.tickets.items i c.index.result.now lt c.index.ensures ∙ ap (λ s. Some s) (sym c.again-ticket.ensures.shot ∙ sym (ap shot_of c.in-Ok.ensures.ok.0));
      kept = ap (took (progress p q (events_view old.events.items)) i) c.in-Ok.ensures.ok.1 ∙ c.requires.kept;
    }
