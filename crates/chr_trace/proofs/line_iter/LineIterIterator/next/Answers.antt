use Rattle.std.proofs.Common.{arith}
use Rattle.chr_trace.proofs.Lined.{next_line}
use Rattle.chr_trace.proofs.line_iter.LineIterIterator.next.Goals as goal

pub returns-clause-steps : goal.returns-clause-steps
returns-clause-steps g c =
    let walk = c.args.self.now in
    next_line walk.lines.now.made walk.next c.get-line.result (omega (arith, c.len.ensures)) c.get-line.ensures
