use Rattle.std.proofs.Common.{◌<◌, length, arith}
use Rattle.chr_trace.proofs.Stacks.{status-some}
use Rattle.chr_machine.proofs.execution.Execution.settle.Goals as goal

pub returns-else-len-eq0-clause-status : goal.returns-else-len-eq0-clause-status
returns-else-len-eq0-clause-status g c =
    let some : 0 < length c.args.self.now.stack.items = omega (arith, c.args.self.now.stack.ok.0) in
    rw (status-some c.args.self.now.stack.items some)
