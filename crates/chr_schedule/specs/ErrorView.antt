-- The errors of the code, as those of the definitions, and their texts.
use Rattle.std.specs.Prelude.{◌≡◌, ◌++◌, ℕ, List, codes, Option, Some, None, option_map, MatchOption, Err}
use Rattle.std.specs.Fmt.{decimal}
use Rattle.chr_semantics.specs.ScheduleText as semantics
use Rattle.chr_semantics.specs.ScheduleText.{read_schedule}
use Rattle.chr_schedule.specs.declared.error.ScheduleErrorKind.{ScheduleErrorKind}
use Rattle.chr_schedule.specs.declared.error.ScheduleError.{ScheduleError}

-- its name
abbrev pub kind_text : ScheduleErrorKind → List ℕ
kind_text ScheduleErrorKind.BadLine = codes "BadLine"
kind_text ScheduleErrorKind.BadNumber = codes "BadNumber"
kind_text ScheduleErrorKind.TooManyEvents = codes "TooManyEvents"
kind_text ScheduleErrorKind.Memory = codes "Memory"

-- its line, and the name of its kind
abbrev pub schedule_error_text : ScheduleError → List ℕ
schedule_error_text e = codes "line " ++ decimal e.line ++ codes ": " ++ kind_text e.kind

-- what is wrong with a line; nothing is where memory was refused
abbrev pub kind_view : ScheduleErrorKind → Option semantics.ScheduleErrorKind
kind_view ScheduleErrorKind.BadLine = Some semantics.bad_line
kind_view ScheduleErrorKind.BadNumber = Some semantics.bad_number
kind_view ScheduleErrorKind.TooManyEvents = Some semantics.too_many_events
kind_view ScheduleErrorKind.Memory = None

-- what is wrong with a text, and in which line
abbrev pub error_view : ScheduleError → Option semantics.ScheduleError
error_view e = option_map (λ kind. record { kind = kind; line = e.line }) (kind_view e.kind)

-- the error says what is wrong with the text, or that memory was refused, in no line
abbrev pub IsErrorOf : List ℕ → ScheduleError → Type 0
IsErrorOf text e = MatchOption (error_view e) (e.line ≡ 0) (λ wrong. read_schedule text ≡ Err wrong)
