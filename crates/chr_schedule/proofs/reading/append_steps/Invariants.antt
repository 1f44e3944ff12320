-- So many Steps stand there as the loop has gone round.
use Rattle.std.proofs.Common.{◌≡◌, ◌++◌, replicate}
use Rattle.chr_semantics.specs.Schedule.{move}
use Rattle.chr_schedule.specs.EventView.{events_view}
use Rattle.chr_schedule.proofs.reading.append_steps.Given as goal

abbrev pub invariant-loop : goal.invariant-loop
invariant-loop g l = events_view l.events.items ≡ events_view l.initial.events.items ++ replicate l.counter move
