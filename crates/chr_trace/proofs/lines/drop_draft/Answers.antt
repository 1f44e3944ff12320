use Rattle.std.proofs.Common.{arith}
use Rattle.chr_trace.proofs.Lined.{cut_is_lines}
use Rattle.chr_trace.proofs.lines.drop_draft.Goals as goal

pub returns : goal.returns
returns g c = cut_is_lines c.args.text.now.items c.args.ends.now.items c.truncate.new.self.items c.as_slice.result.now c.start_of.result c.len.result c.truncate.ensures.items c.start_of.ensures c.as_slice.ensures.value (omega (arith, c.len.ensures, c.args.ends.now.ok.0))
