-- The lines of the code, as those of the definitions.
use Rattle.std.specs.Prelude.{◌≡◌, ℕ, zero, suc, ◌+◌, cond, nat_lt, List, [], ◌∷◌, ◌++◌, length, Result, Ok, Err, IsSomeAnd}
use Rattle.chr_semantics.specs.Schedule.{Event}
use Rattle.chr_semantics.specs.ScheduleText as semantics
use Rattle.chr_semantics.specs.ScheduleText.{events_of, size_of}
use Rattle.chr_semantics.specs.declared.limits.TheConstants.{MAX_SCHEDULE_EVENTS}
use Rattle.chr_schedule.specs.declared.line.Line.{Line}
use Rattle.chr_schedule.specs.declared.error.ScheduleErrorKind.{ScheduleErrorKind}
use Rattle.chr_schedule.specs.ErrorView.{kind_view}

abbrev pub line_view : Line → semantics.Line
line_view Line.Publish = semantics.publishes
line_view (Line.Arrive round index) = semantics.arrives round index
line_view (Line.Steps count) = semantics.moves count

-- the line that is read, or what is wrong with it
abbrev pub IsLine : Result semantics.Line semantics.ScheduleErrorKind → Result Line ScheduleErrorKind → Type 0
IsLine read (Ok line) = read ≡ Ok (line_view line)
IsLine read (Err kind) = IsSomeAnd (kind_view kind) (λ wrong. read ≡ Err wrong)

-- these events and then those of a line that is read, unless they are too many
abbrev pub appended : List Event → Result semantics.Line semantics.ScheduleErrorKind → Result (List Event) semantics.ScheduleErrorKind
appended events (Ok line) = cond (nat_lt MAX_SCHEDULE_EVENTS (length events + size_of line)) (Err semantics.too_many_events) (Ok (events ++ events_of line))
appended events (Err wrong) = Err wrong

-- the line of a number of Steps, where there are any
abbrev pub run_of : ℕ → List semantics.Line
run_of zero = []
run_of (suc n) = semantics.moves (suc n) ∷ []
