-- The text of an error.
use Rattle.std.specs.Prelude.{ℕ, List, ◌++◌, codes, Option, Some, None}
use Rattle.std.specs.Fmt.{decimal}
use Rattle.chr_core.specs.declared.error.CoreError.{CoreError}
use Rattle.chr_core.specs.declared.error.CoreError.TheVariants as core
use Rattle.chr_core.specs.declared.error.ReplayError.{ReplayError}
use Rattle.chr_core.specs.declared.error.ReplayError.TheVariants.{UnknownRound, UnknownTask, Memory, TooManyRounds, TooManySteps}

abbrev pub core_error_text : CoreError → List ℕ
core_error_text core.ShelfFull = codes "ShelfFull"
core_error_text core.Memory = codes "Memory"

abbrev pub replay_error_word : ReplayError → List ℕ
replay_error_word (UnknownRound k) = codes "UnknownRound"
replay_error_word (UnknownTask k) = codes "UnknownTask"
replay_error_word Memory = codes "Memory"
replay_error_word (TooManyRounds k) = codes "TooManyRounds"
replay_error_word (TooManySteps k) = codes "TooManySteps"

-- the place of the event that is refused
abbrev pub replay_error_place : ReplayError → Option ℕ
replay_error_place (UnknownRound k) = Some k
replay_error_place (UnknownTask k) = Some k
replay_error_place Memory = None
replay_error_place (TooManyRounds k) = Some k
replay_error_place (TooManySteps k) = Some k

-- a word at the place of an event, where there is one
abbrev pub placed_text : Option ℕ → List ℕ → List ℕ
placed_text (Some place) word = codes "schedule event " ++ decimal place ++ codes ": " ++ word
placed_text None word = word

abbrev pub replay_error_text : ReplayError → List ℕ
replay_error_text e = placed_text (replay_error_place e) (replay_error_word e)
