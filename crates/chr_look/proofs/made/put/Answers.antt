use Rattle.std.proofs.Common.{ap, sym, ◌∙◌}
use Rattle.chr_semantics.specs.Step.{is_running}
use Rattle.chr_machine.specs.MachineView.{machine_view}
use Rattle.chr_machine.specs.Model.{state_in}
use Rattle.chr_look.proofs.Watches.{put_is}
use Rattle.chr_look.proofs.made.put.Goals as goal

pub returns-then-is_running : goal.returns-then-is_running
returns-then-is_running g c =
    let runs = sym (ap is_running c.status.ensures) ∙ sym c.is_running.ensures ∙ c.if-is_running.true in
    put_is c.stack.result.now (state_in (machine_view c.args.machine.now)) c.args.height c.saturating_sub.result runs c.stack.ensures c.saturating_sub.ensures
