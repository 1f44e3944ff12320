use Rattle.std.proofs.Common.{List, Ok, subst, sym, ◌≡◌}
use Rattle.chr_semantics.specs.ScheduleText.{read_schedule}
use Rattle.chr_schedule.specs.declared.event.Event.{Event}
use Rattle.chr_rules.specs.ProgramView.{names_of, rules_of}
use Rattle.chr_rules.specs.RuleView.{query_view}
use Rattle.chr_schedule.specs.EventView.{events_view}
use Rattle.chr_run.specs.Replays.{IsTextReplay}
use Rattle.chr_run.proofs.Parts.{answered}
use Rattle.chr_run.proofs.ReplayTexts.{accepted_replay, unread}
use Rattle.chr_run.proofs.replays.replay_text.Goals as goal

pub returns-in_err-events : goal.returns-in_err-events
returns-in_err-events g c =
    let texts = c.in_ok-texts.texts in
    let old = g.W.Write.contents c.args.writer.now in
    answered (IsTextReplay c.args.program.now c.args.query.now c.args.schedule.now old old) c.from_residual-in_err-events.result c.in_err-events.field-0.0 c.from_residual-in_err-events.ensures.1
    (unread c.args.program.now c.args.query.now (names_of texts.program) (rules_of texts.program) (query_view texts.query) c.in_ok-texts.ensures.ok c.args.schedule.now old c.in_err-events.field-0.0 c.in_err-events.ensures.err)

pub returns : goal.returns
returns g c =
    let texts = c.in_ok-texts.texts in
    let read = subst (λ (es : List Event). read_schedule c.args.schedule.now ≡ Ok (events_view es)) (sym c.as_slice.ensures.value) c.in_ok-events.ensures.ok in
    accepted_replay c.args.program.now c.args.query.now (names_of texts.program) (rules_of texts.program) (query_view texts.query) c.in_ok-texts.ensures.ok c.args.schedule.now
    (events_view c.as_slice.result.now) read _ _ _ c.replay_accepted.ensures
