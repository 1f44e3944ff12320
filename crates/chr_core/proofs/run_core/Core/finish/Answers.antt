use Rattle.std.proofs.Common.{ap, sym, ◌∙◌}
use Rattle.chr_semantics.specs.Calls.{rise_by_calls}
use Rattle.chr_semantics.specs.Outcome.{outcome_of}
use Rattle.chr_semantics.specs.Stamps.{stamp}
use Rattle.chr_semantics.specs.State.{start}
use Rattle.chr_semantics.specs.Step.{after, steps}
use Rattle.chr_semantics.specs.Text.{trace}
use Rattle.chr_rules.specs.RuleView.{query_view}
use Rattle.chr_machine.specs.MachineView.{machine_view}
use Rattle.chr_core.specs.Marks.{mark_stamp}
use Rattle.chr_core.proofs.run_core.Core.finish.Goals as goal

pub returns-clause-outcome : goal.returns-clause-outcome
returns-clause-outcome g c =
    let core = c.args.self in
    let p = g.J.RunName.rules in
    let r = query_view core.query in
    let q = start r in
    let m = machine_view core.machine in
    let run = core.at.run in
    let many = sym core.stands.steps_are in
    let made = sym run.made ∙ ap (steps p q) many in
    record {
      outcome_is = c.finish.ensures.outcome
          ∙ (λ i. outcome_of ((run.state_is ∙ ap (after p q) many) i) (made i) ((run.lines_are ∙ ap (trace m.names r.var_names p q 1) many) i) (run.same.var_names i));
      stamps_are = λ x. (λ i. mark_stamp (c.finish.ensures.store i) (c.finish.ensures.history i) x) ∙ core.at.stamps_are x ∙ ap (λ n. stamp p (rise_by_calls p) q n x) made;
    }
