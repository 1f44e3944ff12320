use Rattle.std.proofs.Common.{arith}
use Rattle.chr_trace.proofs.Lined.{end_before}
use Rattle.cordspar.proofs.lined.start_of.Goals as goal

pub returns-else-number-eq0 : goal.returns-else-number-eq0
returns-else-number-eq0 c = end_before 0 c.args.ends.now c.args.number (omega arith) c.requires
