-- The text of an error.
use Rattle.std.specs.Prelude.{ℕ, List, ◌++◌, codes}
use Rattle.std.specs.Fmt.{decimal}
use Rattle.chr_read.specs.ErrorText.{read_error_text}
use Rattle.chr_rules.specs.ErrorText.{rule_error_kind_text, rule_error_text}
use Rattle.chr_schedule.specs.ErrorView.{schedule_error_text}
use Rattle.chr_core.specs.ErrorText.{replay_error_text}
use Rattle.chr_run.specs.declared.error.RunError.{RunError}
use Rattle.chr_run.specs.declared.error.RunError.TheVariants.{BudgetTooLarge, TooManyWorkers, Memory}
use Rattle.chr_run.specs.declared.error.TextError.{TextError}
use Rattle.chr_run.specs.declared.error.TextError.TheVariants.{Run, Program, Rules, Query, Goals, Schedule, Replay, Write}

-- the name of a refusal
abbrev pub run_error_text : RunError → List ℕ
run_error_text BudgetTooLarge = codes "BudgetTooLarge"
run_error_text TooManyWorkers = codes "TooManyWorkers"
run_error_text Memory = codes "Memory"

-- how the program says an error
abbrev pub text_error_text : TextError → List ℕ
text_error_text (Run e) = run_error_text e
text_error_text (Program e) = codes "program " ++ read_error_text e
text_error_text (Rules e) = codes "program " ++ rule_error_text e
text_error_text (Query e) = codes "query " ++ read_error_text e
text_error_text (Goals e) = codes "query line " ++ decimal e.line ++ codes ": " ++ rule_error_kind_text e.kind
text_error_text (Schedule e) = codes "schedule " ++ schedule_error_text e
text_error_text (Replay e) = replay_error_text e
text_error_text Write = codes "cannot write"
