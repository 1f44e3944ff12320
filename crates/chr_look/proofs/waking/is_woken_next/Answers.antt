use Rattle.std.proofs.Common.{◌∙◌, sym}
use Rattle.chr_machine.specs.MachineView.{machine_view}
use Rattle.chr_machine.specs.Model.{state_in}
use Rattle.chr_look.proofs.Woken.{wakes_none, wakes_some}
use Rattle.chr_look.proofs.waking.is_woken_next.Goals as goal

pub returns-in-None : goal.returns-in-None
returns-in-None g c = wakes_none (state_in (machine_view c.args.machine.now)) c.args.id.0 (rw c.in-None.is at c.woken_next.ensures)

pub returns-in-Some : goal.returns-in-Some
returns-in-Some g c = wakes_some (state_in (machine_view c.args.machine.now)) c.args.id.0 c.in-Some.other.0 (rw c.in-Some.is at c.woken_next.ensures)
