-- The examples of schedules as text.
use Rattle.std.specs.Prelude.{ℕ, List, codes, map, Option, Some, None, Result, Ok, Err, take}
use Rattle.chr_semantics.specs.Schedule.{Event, Progress, progress}
use Rattle.chr_semantics.specs.ScheduleText.{ScheduleError, ScheduleErrorKind, read_schedule}
use Rattle.chr_semantics.specs.State.{start}
use Rattle.chr_semantics.specs.Tasks.{numbers_from}
use Rattle.chr_semantics.specs.Examples.Example.{Example}

abbrev pub three_lines : List ℕ
three_lines = codes "step 6\npublish\narrive 0 0\n"

-- the line at fault
abbrev pub line_at_fault : Result (List Event) ScheduleError → Option ℕ
line_at_fault (Ok es) = None
line_at_fault (Err e) = Some e.line

-- of the first k bytes of the three lines, for k from 0 to 26
abbrev pub faults_by_length : List (Option ℕ)
faults_by_length = map (λ k. line_at_fault (read_schedule (take k three_lines))) (numbers_from 0 27)

-- a text that is refused at a line
abbrev pub refused : ScheduleErrorKind → ℕ → Result (List Event) ScheduleError
refused kind line = Err (record { kind = kind; line = line })

abbrev pub progress_in : Example → List Event → Progress
progress_in e = progress e.program (start e.query)
