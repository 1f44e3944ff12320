-- The text of all events is what is written, and then that of the Steps that are not written yet and of the events that are left.
use Rattle.std.proofs.Common.{◌≡◌, ◌++◌, ◌≤◌, drop, replicate}
use Rattle.chr_semantics.specs.Schedule.{move}
use Rattle.chr_semantics.specs.ScheduleText.{schedule_text}
use Rattle.chr_term.specs.Extension.{IsExtension}
use Rattle.chr_schedule.specs.EventView.{events_view}
use Rattle.chr_schedule.proofs.printing.write_schedule.Given as goal

abbrev pub invariant-loop-event : goal.invariant-loop-event
invariant-loop-event g l = record {
  text : l.initial.out.items ++ schedule_text (events_view l.events) ≡ l.out.items ++ schedule_text (replicate l.steps move ++ events_view (drop l.event-index l.events));
  few : l.steps ≤ l.event-index;
  kept : IsExtension l.initial.out.items l.out.items;
}
