use Rattle.chr_machine.specs.MachineView.{machine_view}
use Rattle.chr_run.specs.Sending.{rest_text}
use Rattle.chr_run.proofs.Ends.{rest_some}
use Rattle.chr_run.proofs.Parts.{less_none}
use Rattle.chr_run.proofs.outlet.AnyOutlet.send_rest.Goals as goal

pub returns-in-Err-clause-less : goal.returns-in-Err-clause-less
returns-in-Err-clause-less g c =
    let m = machine_view c.args.machine.now in
    less_none (g.W.Write.contents c.args.self.now) (rest_text m c.args.sent) (rest_some m c.args.sent)
