-- What goes out while a run goes on.
use Rattle.std.specs.Prelude.{ℕ, ◌≤◌, ◌++◌, List, take, drop, length, Option}
use Rattle.std.specs.Io.KnownBytes.{Appends}
use Rattle.chr_semantics.specs.Text.{lines_text, outcome}
use Rattle.chr_machine.specs.Model.{Model, state_in}
use Rattle.chr_run.specs.declared.error.RunError.TheVariants.{BudgetTooLarge, TooManyWorkers, Memory}
use Rattle.chr_run.specs.declared.error.TextError.{TextError}
use Rattle.chr_run.specs.declared.error.TextError.TheVariants.{Run, Program, Rules, Query, Goals, Schedule, Replay, Write}

-- what a run can be cut off by
abbrev pub IsCut : TextError → Type 0
IsCut (Run BudgetTooLarge) = ⊥
IsCut (Run TooManyWorkers) = ⊥
IsCut (Run Memory) = Unit {0}
IsCut (Program e) = ⊥
IsCut (Rules e) = ⊥
IsCut (Query e) = ⊥
IsCut (Goals e) = ⊥
IsCut (Schedule e) = ⊥
IsCut (Replay e) = ⊥
IsCut Write = Unit {0}

-- the first lines of the run are out
pub record AreOut (old new : Option (List ℕ)) (lines : List (List ℕ)) (sent : ℕ) : Type 0 where
  pub few : sent ≤ length lines
  pub appends : Appends old new (lines_text (take sent lines))

-- the lines from the sent-th to the count-th go out
pub record GoOn (old new : Option (List ℕ)) (lines : List (List ℕ)) (sent count : ℕ) : Type 0 where
  pub onward : sent ≤ count
  pub few : count ≤ length lines
  pub appends : Appends old new (lines_text (drop sent (take count lines)))

-- the lines after the trace
abbrev pub end_lines : Model → List (List ℕ)
end_lines m = outcome m.names m.var_names m.rules (state_in m)

-- the lines that are not out yet, with those after the trace
abbrev pub rest_text : Model → ℕ → List ℕ
rest_text m sent = lines_text (drop sent m.lines ++ end_lines m)

-- all lines
abbrev pub whole_text : Model → List ℕ
whole_text m = lines_text (m.lines ++ end_lines m)
