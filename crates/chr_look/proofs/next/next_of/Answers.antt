use Rattle.std.proofs.Common.{Some, ◌∙◌, ap, subst, sym}
use Rattle.chr_semantics.specs.Program.{Program}
use Rattle.chr_semantics.specs.Step.{is_running}
use Rattle.chr_trace.specs.State.{stack_view}
use Rattle.chr_machine.specs.MachineView.{machine_view}
use Rattle.chr_machine.specs.Model.{state_in}
use Rattle.chr_look.specs.NextView.{IsNext}
use Rattle.chr_look.proofs.Listed.{top_last}
use Rattle.chr_look.proofs.Placed.{runs_on}
use Rattle.chr_look.proofs.next.next_of.Goals as goal

pub returns : goal.returns
returns g c =
    let m = machine_view c.args.machine.now in
    let rest = c.in_ok-top.field-0-1.now in
    let stack = sym c.stack.ensures ∙ ap stack_view c.in_ok-top.ensures.cases.0 ∙ top_last rest c.in_ok-top.top.now in
    let runs = sym (ap is_running c.status.ensures) ∙ sym c.is_running.ensures ∙ c.if-not-is_running.false in
    subst (λ (p : Program). IsNext p (state_in m) (Some c.next_on_top.result)) c.program.ensures.rules (c.next_on_top.ensures (state_in m) (stack_view rest) (runs_on m.status runs) stack)
