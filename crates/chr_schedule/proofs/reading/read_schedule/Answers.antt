-- A line that is appended is read, and what is wrong with one is wrong with the text.
use Rattle.std.proofs.Common.{arith}
use Rattle.std.proofs.lemmas.Option.{IfSome_then}
use Rattle.chr_schedule.specs.ErrorView.{kind_view}
use Rattle.chr_schedule.specs.EventView.{events_view}
use Rattle.chr_schedule.proofs.Faults.{error_is}
use Rattle.chr_schedule.proofs.ReadLines.{line_at_fault, line_read}
use Rattle.chr_schedule.proofs.reading.read_schedule.Goals as goal

pub returns-in-Err-clause-err : goal.returns-in-Err-clause-err
returns-in-Err-clause-err g c =
    error_is c.args.text.now c.in_line.result c.in-Err.kind c.loop-line.number c.in_line.ensures.kind c.in_line.ensures.line
    (IfSome_then (kind_view c.in-Err.kind) c.in-Err.ensures.err
    (λ wrong is. line_at_fault c.args.text.now (events_view c.loop-line.events.items) c.loop-line.number c.loop-line.rest.now c.in-Some.line.now c.in-Some.others.now wrong c.loop-line.invariant.read c.in-Some.ensures.parts is))

pub loop-line-preserved : goal.loop-line-preserved
loop-line-preserved g c = record {
  read = line_read c.args.text.now (events_view c.loop-line.events.items) (events_view c.append_line.new.events.items) c.loop-line.number c.loop-line.rest.now c.in-Some.line.now c.in-Some.others.now
      c.loop-line.invariant.read c.in-Some.ensures.parts c.in_default-append_line.ensures.ok;
  few = c.in_default-append_line.ensures.few;
  lines = omega (arith, c.in-Some.ensures.len);
}
