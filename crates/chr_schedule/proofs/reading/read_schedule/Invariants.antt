-- The text is read up to the rest, and has as many bytes at least as lines.
use Rattle.std.proofs.Common.{◌+◌, ◌≤◌, length}
use Rattle.chr_semantics.specs.declared.limits.TheConstants.{MAX_SCHEDULE_EVENTS}
use Rattle.chr_schedule.specs.EventView.{events_view}
use Rattle.chr_schedule.proofs.ReadLines.{IsReadTo}
use Rattle.chr_schedule.proofs.reading.read_schedule.Given as goal

abbrev pub invariant-loop-line : goal.invariant-loop-line
invariant-loop-line g l = record {
  read : IsReadTo l.fn.text (events_view l.events.items) l.number l.rest;
  few : length l.events.items ≤ MAX_SCHEDULE_EVENTS;
  lines : l.number + length l.rest ≤ 1 + length l.fn.text;
}

abbrev pub decreases-loop-line : goal.decreases-loop-line
decreases-loop-line g l = length l.rest
