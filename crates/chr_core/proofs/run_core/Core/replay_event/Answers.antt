use Rattle.std.proofs.Common.{ap, arith, sym, ◌∙◌}
use Rattle.chr_semantics.specs.State.{start}
use Rattle.chr_semantics.specs.Step.{after}
use Rattle.chr_rules.specs.RuleView.{query_view}
use Rattle.chr_rules.proofs.Each.{err_answers}
use Rattle.chr_schedule.specs.EventView.{events_view}
use Rattle.chr_machine.specs.MachineView.{machine_view}
use Rattle.chr_machine.specs.Model.{state_in}
use Rattle.chr_core.proofs.Replayed.{arrival_refused, arrival_replayed, event_there, few_steps, publish_refused, publish_replayed, step_answers, step_refuses}
use Rattle.chr_core.proofs.run_core.Core.replay_event.Goals as goal

pub returns-in_err-replay_publish-in-Publish-clause-err : goal.returns-in_err-replay_publish-in-Publish-clause-err
returns-in_err-replay_publish-in-Publish-clause-err g c =
    let is = event_there c.args.events.now c.args.turn.place _ c.requires.within c.in-Publish.is in
    let e = c.in_err-replay_publish-in-Publish.field-0.0 in
    err_answers c.from_residual.result e _ c.from_residual.ensures.1 (publish_refused (events_view c.args.events.now) c.args.turn.place is c.requires.before e c.in_err-replay_publish-in-Publish.ensures.err)

pub returns-in_err-replay_arrival-in-Arrive-clause-err : goal.returns-in_err-replay_arrival-in-Arrive-clause-err
returns-in_err-replay_arrival-in-Arrive-clause-err g c =
    let is = event_there c.args.events.now c.args.turn.place _ c.requires.within c.in-Arrive.is in
    let e = c.in_err-replay_arrival-in-Arrive.field-0.0 in
    err_answers c.from_residual-in_err-replay_arrival-in-Arrive.result e _ c.from_residual-in_err-replay_arrival-in-Arrive.ensures.1 (arrival_refused (events_view c.args.events.now) c.args.turn.place is c.requires.before e c.in_err-replay_arrival-in-Arrive.ensures.err)

pub replay_step-requires : goal.replay_step-requires
replay_step-requires g c =
    let is = event_there c.args.events.now c.args.turn.place _ c.requires.within c.in-Step.is in
    let made = c.args.self.now.stands.steps_are in
    let few = few_steps (events_view c.args.events.now) c.args.turn.place is c.requires.before in
    record { few = omega (arith, made, few) }

pub returns-in-Step-clause-after : goal.returns-in-Step-clause-after
returns-in-Step-clause-after g c =
    let is = event_there c.args.events.now c.args.turn.place _ c.requires.within c.in-Step.is in
    let core = c.args.self.now in
    let leads = after g.J.RunName.rules (start (query_view core.query)) in
    step_answers (events_view c.args.events.now) c.args.turn.place is c.requires.before c.replay_step.result (events_view c.replay_step.new.self.events.items) (state_in (machine_view core.machine))
    (core.at.run.state_is ∙ ap leads (sym core.stands.steps_are)) c.replay_step.ensures.steps c.replay_step.ensures.few c.replay_step.ensures.events

pub returns-in-Step-clause-err : goal.returns-in-Step-clause-err
returns-in-Step-clause-err g c =
    let is = event_there c.args.events.now c.args.turn.place _ c.requires.within c.in-Step.is in
    step_refuses (events_view c.args.events.now) c.args.turn.place is c.requires.before c.replay_step.result c.replay_step.ensures.err

pub returns-in_ok-replay_publish-in-Publish-clause-after : goal.returns-in_ok-replay_publish-in-Publish-clause-after
returns-in_ok-replay_publish-in-Publish-clause-after g c =
    let is = event_there c.args.events.now c.args.turn.place _ c.requires.within c.in-Publish.is in
    publish_replayed (events_view c.args.events.now) c.args.turn.place is c.requires.before (events_view c.replay_publish.new.self.events.items) c.in_ok-replay_publish-in-Publish.ensures.there c.in_ok-replay_publish-in-Publish.ensures.events

pub returns-in_ok-replay_arrival-in-Arrive-clause-after : goal.returns-in_ok-replay_arrival-in-Arrive-clause-after
returns-in_ok-replay_arrival-in-Arrive-clause-after g c =
    let is = event_there c.args.events.now c.args.turn.place _ c.requires.within c.in-Arrive.is in
    arrival_replayed (events_view c.args.events.now) c.args.turn.place is c.requires.before (events_view c.replay_arrival.new.self.events.items) c.in_ok-replay_arrival-in-Arrive.ensures.there c.in_ok-replay_arrival-in-Arrive.ensures.events
