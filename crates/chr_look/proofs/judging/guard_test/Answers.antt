use Rattle.std.proofs.Common.{◌∙◌, ap, option_map, sym}
use Rattle.std.proofs.lemmas.Result.{IfOk-weaker}
use Rattle.std.specs.Prelude.{slice_get}
use Rattle.chr_bind.specs.Guards.{test_view}
use Rattle.chr_rules.specs.RuleView.{rule_view}
use Rattle.chr_machine.specs.MachineView.{machine_view}
use Rattle.chr_machine.specs.Model.{state_in}
use Rattle.chr_look.specs.VerdictView.{rows_view}
use Rattle.chr_look.proofs.Judged.{test_of_the_list}
use Rattle.chr_look.proofs.judging.guard_test.Goals as goal

pub returns : goal.returns
returns g c =
    let s = state_in (machine_view c.args.machine.now) in
    let rs = rows_view c.as_slice.result.now in
    let all = ap rows_view c.as_slice.ensures.value ∙ c.in_ok-constraints.ensures in
    let found = ap (λ rules. slice_get rules c.args.rule) (sym c.program.ensures.rules) ∙ c.rule.ensures.is in
    IfOk-weaker c.test_applied.result _ _
    (λ test h r at. test_of_the_list s c.args.ids c.args.k (rule_view c.rule.result.now) r rs (option_map test_view test) (cc (found, at)) all h)
    c.test_applied.ensures
