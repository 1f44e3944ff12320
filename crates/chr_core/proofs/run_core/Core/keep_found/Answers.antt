use Rattle.std.proofs.Common.{ap, ◌∙◌}
use Rattle.std.specs.Prelude.{slice_get}
use Rattle.chr_semantics.specs.Schedule.{progress, took}
use Rattle.chr_semantics.specs.State.{start}
use Rattle.chr_rules.specs.RuleView.{query_view}
use Rattle.chr_shelf.specs.Seat.{ids_of, shot_of, shots_in, task_of}
use Rattle.chr_core.specs.RoundView.{rounds_view}
use Rattle.chr_core.proofs.Arrived.{placed, right}
use Rattle.chr_core.proofs.run_core.Core.keep_found.Goals as goal

pub keep-requires : goal.keep-requires
keep-requires g c =
    let p = g.J.RunName.rules in
    let new = c.room_for_answer.new.self in
    let made = c.in_default.ensures in
    let i = c.args.round in
    let a = c.args.answer in
    let r = query_view new.query in
    let rounds = rounds_view new.rounds.items in
    let shots = shots_in new.tickets.items in
    let there = ap (λ ts. slice_get (shots_in ts.items) i) made.tickets ∙ c.requires.shown in record {
      events = made.events;
      room = rw c.task.ensures at made.answers;
      kept = (λ k. took (progress p (start (made.same.run.query_is k)) (made.same.events_are k)) i a.index) ∙ c.requires.kept;
      there = placed p r rounds shots new.shown i (shot_of a.ticket) there a.index (task_of a) (ids_of a) a.of_run;
      right = right p r rounds shots new.shown i (shot_of a.ticket) there a.index (task_of a) (ids_of a) a.of_run;
    }
