use Rattle.std.proofs.Common.{ap, subst}
use Rattle.std.specs.Io.KnownBytes.{Appends}
use Rattle.chr_semantics.specs.Outcome.{Outcome}
use Rattle.chr_semantics.specs.Schedule.{progress}
use Rattle.chr_semantics.specs.State.{start}
use Rattle.chr_rules.specs.ProgramView.{names_of, rules_of}
use Rattle.chr_rules.specs.RuleView.{query_view}
use Rattle.chr_schedule.specs.EventView.{events_view}
use Rattle.chr_machine.specs.OutcomeView.{outcome_view}
use Rattle.chr_run.proofs.ReplayTexts.{text_is, unsent, whole}
use Rattle.chr_run.proofs.replays.replay_into.Goals as goal

pub returns-in-Err-send_outcome : goal.returns-in-Err-send_outcome
returns-in-Err-send_outcome g c =
    let names = names_of c.args.program.now in
    let p = rules_of c.args.program.now in
    let q = query_view c.args.query in
    let es = events_view c.args.events.now in
    let made = c.in-Ok.ensures.ok in
    let same = text_is names p q (progress p (start q) es).steps (outcome_view c.in-Ok.outcome) made.outcome.outcome_is in
    unsent names p q es (whole names p (outcome_view c.in-Ok.outcome)) _ _ c.in-Err-send_outcome.error made.accepted same c.in-Err-send_outcome.ensures.err

pub returns : goal.returns
returns g c =
    let names = names_of c.args.program.now in
    let p = rules_of c.args.program.now in
    let q = query_view c.args.query in
    let es = events_view c.args.events.now in
    let made = c.in-Ok.ensures.ok in
    let same = text_is names p q (progress p (start q) es).steps (outcome_view c.in-Ok.outcome) made.outcome.outcome_is in
    record {
      allowed = made.accepted;
      appends = subst (Appends (g.W.Write.contents c.args.writer.now) (g.W.Write.contents c.send_outcome.new.writer)) same c.in-Ok-send_outcome.ensures.ok;
      status_is = ap (λ (w : Outcome). w.state.status) made.outcome.outcome_is;
      counts_are = made.counts_are;
    }
