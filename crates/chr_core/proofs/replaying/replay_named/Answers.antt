use Rattle.std.proofs.Common.{ap, subst, sym, ◌∙◌, ◌≡◌}
use Rattle.std.specs.Prelude.{Option}
use Rattle.chr_semantics.specs.Calls.{rise_by_calls}
use Rattle.chr_semantics.specs.Names.{Names}
use Rattle.chr_semantics.specs.Outcome.{Outcome, outcome_after}
use Rattle.chr_semantics.specs.Schedule.{Refusal, counts, first_refusal, no_progress, progress}
use Rattle.chr_semantics.specs.Stamps.{stamp}
use Rattle.chr_semantics.specs.State.{start}
use Rattle.chr_semantics.specs.Step.{steps}
use Rattle.chr_semantics.proofs.IdleLaw.{idle_law}
use Rattle.chr_laws.proofs.Replay.{replay_law}
use Rattle.chr_rules.specs.ProgramView.{names_of, rules_of}
use Rattle.chr_rules.specs.RuleView.{query_view}
use Rattle.chr_rules.proofs.Each.{err_answers}
use Rattle.chr_schedule.specs.EventView.{events_view}
use Rattle.chr_core.specs.Replaying.{IsRefusal}
use Rattle.chr_core.proofs.replaying.replay_named.Goals as goal

pub returns-in_err-replay_all-clause-err : goal.returns-in_err-replay_all-clause-err
returns-in_err-replay_all-clause-err g c =
    let e = c.in_err-replay_all.field-0.0 in
    let all = events_view c.args.events.now in
    let same : first_refusal g.J.RunName.rules (start (query_view c.in_ok-core.core.query)) no_progress 0 all ≡ first_refusal (rules_of c.args.program.now) (start (query_view c.args.query)) no_progress 0 all =
    λ k. first_refusal (sym c.requires.run.rules k) (start (c.in_ok-core.ensures.query k)) no_progress 0 all in
    err_answers c.from_residual-in_err-replay_all.result e (IsRefusal (first_refusal (rules_of c.args.program.now) (start (query_view c.args.query)) no_progress 0 all)) c.from_residual-in_err-replay_all.ensures.1
    (subst (λ (o : Option Refusal). IsRefusal o e) same c.in_err-replay_all.ensures.err)

pub returns-clause-ok : goal.returns-clause-ok
returns-clause-ok g c =
    let p = g.J.RunName.rules in
    let r = query_view c.args.query in
    let all = events_view c.args.events.now in
    let rules = c.requires.run.rules in
    let query = c.replay_all.ensures.same.query_is ∙ c.in_ok-core.ensures.query in
    let names = c.replay_all.ensures.same.names_are ∙ c.in_ok-core.ensures.names in
    let events = c.in_ok-replay_all.ensures.ok ∙ (λ k. Rattle.chr_semantics.specs.Schedule.performed p (start (c.in_ok-core.ensures.query k)) all) in
    let same = replay_law.outcome (names_of c.args.program.now) p r all in
    record {
      accepted = (λ k. first_refusal (rules k) (start (sym c.in_ok-core.ensures.query k)) no_progress 0 all) ∙ c.in_ok-replay_all.ensures.none;
      outcome = record {
        outcome_is = c.finish-outcome.ensures.outcome.outcome_is
            ∙ (λ k. outcome_after (names k) p (query k) (progress p (start (query k)) (events k)).steps)
            ∙ same
            ∙ (λ k. outcome_after (names_of c.args.program.now) (sym rules k) r (progress (sym rules k) (start r) all).steps);
        stamps_are = λ x. c.finish-outcome.ensures.outcome.stamps_are x
            ∙ (λ k. stamp p (rise_by_calls p) (start (query k)) (steps p (start (query k)) (progress p (start (query k)) (events k)).steps) x)
            ∙ ap (λ (o : Outcome). stamp p (rise_by_calls p) (start r) o.steps x) same
            ∙ (λ k. stamp (sym rules k) (rise_by_calls (sym rules k)) (start r) (steps (sym rules k) (start r) (progress (sym rules k) (start r) all).steps) x);
      };
      counts_are = c.counts-counts.ensures
          ∙ (λ k. counts p (start (query k)) (events k))
          ∙ idle_law.counts_same p r all
          ∙ (λ k. counts (sym rules k) (start r) all);
    }
