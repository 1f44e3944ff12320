-- The events of the code, as those of the definitions.
use Rattle.std.specs.Prelude.{List, map}
use Rattle.chr_semantics.specs.Schedule as semantics
use Rattle.chr_schedule.specs.declared.event.Event.{Event}

abbrev pub event_view : Event → semantics.Event
event_view Event.Publish = semantics.publish
event_view (Event.Arrive round index) = semantics.arrive round index
event_view Event.Step = semantics.move

abbrev pub events_view : List Event → List semantics.Event
events_view es = map event_view es
