-- The round stands, and is asked for a task that it has, or has not.
use Rattle.std.proofs.Common.{Bool, None, Option, Some, ap, arith, cond, length, ℕ, ◌∙◌, ◌≡◌}
use Rattle.std.proofs.lemmas.Bool.{le-ltb, lt-ltb}
use Rattle.std.proofs.lemmas.Option.{slice_get-map}
use Rattle.std.specs.Prelude.{nat_lt, option_map, slice_get}
use Rattle.chr_semantics.specs.Calls.{rise_by_calls}
use Rattle.chr_semantics.specs.Schedule.{Refusal, arrive, unknown_task}
use Rattle.chr_shelf.specs.declared.run.RunName.{Ghosts}
use Rattle.chr_core.specs.CoreView.{progress_of, start_of}
use Rattle.chr_core.specs.Replaying.{refusal_after}
use Rattle.chr_core.specs.RoundView.{round_view, rounds_view}
use Rattle.chr_core.specs.declared.round.Round.{Round}
use Rattle.chr_core.specs.declared.run_core.Core.{Core}
use Rattle.chr_core.proofs.Found.{got, refusal_by}
use Rattle.chr_core.proofs.run_core.Core.check_arrival.Goals as goal

refusal_at : {J A : Type 0} {G : Ghosts J} (core : Core J A G) (i place x : ℕ) (d : Round A) → slice_get core.rounds.items i ≡ Some d
    → refusal_after core place (arrive i x) ≡ cond (nat_lt x (length d.touches.items)) None (Some (unknown_task place))
refusal_at {J} {A} {G} core i place x d there =
    refusal_by G.rules (rise_by_calls G.rules) (start_of core) (rounds_view core.rounds.items) core.stands.holds.are_rounds i (round_view d)
    (slice_get-map round_view core.rounds.items i ∙ ap (option_map round_view) there) (progress_of core).rounds place x core.stands.holds.ats_are

pub returns-then-arrival-len-clause-ok : goal.returns-then-arrival-len-clause-ok
returns-then-arrival-len-clause-ok g c =
    let arrival = c.args.arrival in
    let round = c.in-Some.round.now in
    let there = got c.deref.result.now c.args.self.now.rounds.items arrival.round round c.deref.ensures.value c.in-Some.ensures.lookup.3.0 c.in-Some.ensures.lookup.1 in
    refusal_at c.args.self.now arrival.round arrival.place arrival.index round there
    ∙ ap (λ (b : Bool). cond {A = Option Refusal} b None (Some (unknown_task arrival.place))) (lt-ltb arrival.index (length round.touches.items) (omega (arith, c.len.ensures, c.if-arrival-len.true)))

pub returns-else-arrival-len-clause-err : goal.returns-else-arrival-len-clause-err
returns-else-arrival-len-clause-err g c =
    let arrival = c.args.arrival in
    let round = c.in-Some.round.now in
    let there = got c.deref.result.now c.args.self.now.rounds.items arrival.round round c.deref.ensures.value c.in-Some.ensures.lookup.3.0 c.in-Some.ensures.lookup.1 in
    refusal_at c.args.self.now arrival.round arrival.place arrival.index round there
    ∙ ap (λ (b : Bool). cond {A = Option Refusal} b None (Some (unknown_task arrival.place))) (le-ltb arrival.index (length round.touches.items) (omega (arith, c.len.ensures, c.if-arrival-len.false)))
