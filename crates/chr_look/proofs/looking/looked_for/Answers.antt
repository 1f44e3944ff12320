use Rattle.std.proofs.Common.{◌∙◌, ap, sym}
use Rattle.std.specs.List.{list_all}
use Rattle.std.specs.Prelude.{is_some}
use Rattle.chr_semantics.specs.Search.{atom_of}
use Rattle.chr_semantics.specs.Step.{is_running}
use Rattle.chr_semantics.specs.Life.{looks_at_top}
use Rattle.chr_trace.specs.State.{stack_view}
use Rattle.chr_machine.specs.MachineView.{machine_view}
use Rattle.chr_machine.specs.Model.{state_in}
use Rattle.chr_look.proofs.Listed.{looks_when, top_last}
use Rattle.chr_look.proofs.looking.looked_for.Goals as goal

pub returns : goal.returns
returns g c =
    let m = machine_view c.args.machine.now in
    let rest = c.in_ok-top.field-0-1.now in
    let stack = sym c.stack.ensures ∙ ap stack_view c.in_ok-top.ensures.cases.0 ∙ top_last rest c.in_ok-top.top.now in
    let runs = sym (ap is_running c.status.ensures) ∙ sym c.is_running.ensures ∙ c.if-not-is_running.false in
    let live = sym (λ k. list_all (λ i. is_some (atom_of (c.store.ensures k).rows i)) (c.as_slice.ensures.ids k)) ∙ sym c.all_live.ensures ∙ c.if-not-all_live.false in
    let looked = c.looked_at.ensures (stack_view rest) ∙ (λ k. looks_at_top (c.program.ensures.rules k) c.args.rule c.args.ids (sym stack k)) in
    looks_when m.rules (state_in m) c.args.rule c.args.ids _ runs live looked
