use Rattle.std.proofs.Common.{◌∙◌, ap, sym}
use Rattle.std.proofs.lemmas.Result.{IfOk-weaker}
use Rattle.chr_semantics.specs.Search.{fired_before}
use Rattle.chr_semantics.specs.Verdict.{first_absent, first_repeated}
use Rattle.chr_machine.specs.MachineView.{machine_view}
use Rattle.chr_machine.specs.Model.{state_in}
use Rattle.chr_look.specs.VerdictView.{verdict_view}
use Rattle.chr_look.proofs.Judged.{judged_by_rows, none_viewed}
use Rattle.chr_look.proofs.judging.judge.Goals as goal

pub returns : goal.returns
returns g c =
    let s = state_in (machine_view c.args.machine.now) in
    let ids = c.args.ids in
    let store = ap (λ t. t.rows) (sym c.store.ensures) in
    let next = ap (λ t. t.next_id) (sym c.store.ensures) in
    let fired = ap (λ e. fired_before e.list c.args.rule ids) (sym c.history.ensures) ∙ sym c.has.ensures ∙ c.if-has.false in
    let absent = ap (first_absent s) (sym c.as_slice.ensures.ids) ∙ none_viewed verdict_view _ _ (c.absence.ensures s store next) c.in_default.is in
    let once = ap first_repeated (sym c.as_slice-2.ensures.ids) ∙ none_viewed verdict_view _ _ c.repetition.ensures c.in_default-repetition.is in
    IfOk-weaker c.judge_living.result _ _ (λ judged h r at. h r at ∙ judged_by_rows s c.args.rule r ids fired absent once) c.judge_living.ensures
