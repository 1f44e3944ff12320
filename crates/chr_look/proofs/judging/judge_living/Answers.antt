use Rattle.std.proofs.Common.{◌∙◌, ap, sym}
use Rattle.std.proofs.lemmas.Result.{IfOk-weaker}
use Rattle.std.specs.Prelude.{slice_get}
use Rattle.chr_semantics.specs.State.{rows}
use Rattle.chr_semantics.specs.Verdict.{rows_of}
use Rattle.chr_rules.specs.RuleView.{rule_view}
use Rattle.chr_machine.specs.MachineView.{machine_view}
use Rattle.chr_machine.specs.Model.{state_in}
use Rattle.chr_look.specs.VerdictView.{rows_view, verdict_view}
use Rattle.chr_look.proofs.Judged.{of_the_list}
use Rattle.chr_look.proofs.judging.judge_living.Goals as goal

pub returns : goal.returns
returns g c =
    let s = state_in (machine_view c.args.machine.now) in
    let rs = rows_view c.as_slice.result.now in
    let all = ap rows_view c.as_slice.ensures.value ∙ c.in_ok-constraints.ensures in
    let found = ap (λ rules. slice_get rules c.args.rule) (sym c.program.ensures.rules) ∙ c.rule.ensures.is in
    IfOk-weaker c.judge_list.result _ _
    (λ judged h r at. of_the_list (rule_view c.rule.result.now) r rs (rows_of (rows s) c.args.ids) (verdict_view judged) (cc (found, at)) all h)
    c.judge_list.ensures
