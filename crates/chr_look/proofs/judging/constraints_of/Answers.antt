use Rattle.std.proofs.Common.{◌∙◌, ◌++◌, ap, sym}
use Rattle.chr_semantics.specs.State.{rows}
use Rattle.chr_semantics.specs.Verdict.{rows_of}
use Rattle.chr_store.specs.Numbers.{numbers}
use Rattle.chr_machine.specs.MachineView.{machine_view}
use Rattle.chr_machine.specs.Model.{state_in}
use Rattle.chr_look.specs.VerdictView.{rows_view}
use Rattle.chr_look.proofs.judging.constraints_of.Goals as goal

pub returns : goal.returns
returns g c =
    let s = state_in (machine_view c.args.machine.now) in
    let store = ap (λ t. t.rows) (sym c.store.ensures) in
    let made = c.in_ok-push_constraints.ensures s store (sym c.bindings.ensures.subst) in
    let before = ap (λ cs. rows_view cs ++ rows_of (rows s) (numbers c.as_slice.result.now)) c.in_ok-constraints.ensures.items in
    made ∙ before ∙ ap (rows_of (rows s)) c.as_slice.ensures.ids
