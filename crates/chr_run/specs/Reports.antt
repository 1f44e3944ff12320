-- What is asked of a run, and what the program `chr` says of it.
use Rattle.std.specs.Prelude.{◌≡◌, ◌⊎◌, ◌++◌, ◌||◌, ℕ, Bool, true, false, not, List, [], ◌∷◌, codes, Option, Some, None, is_some, option_map, unwrap_or}
use Rattle.std.specs.Fmt.{decimal}
use Rattle.std.specs.List.{concat}
use Rattle.std.specs.Io.KnownBytes.{Appends}
use Rattle.chr_semantics.specs.Schedule as schedule
use Rattle.chr_semantics.specs.ScheduleText.{schedule_text}
use Rattle.chr_schedule.specs.EventView.{events_view}
use Rattle.chr_trace.specs.declared.state.Status.{Status}
use Rattle.chr_trace.specs.declared.state.Status.TheVariants.{Running, Done, Failed, Faulted}
use Rattle.chr_board.specs.declared.totals.Totals.{Totals}
use Rattle.chr_core.specs.CoreView.{counts_view}
use Rattle.chr_run.specs.ErrorText.{text_error_text}
use Rattle.chr_run.specs.Output.{AppendsPart}
use Rattle.chr_run.specs.declared.command_line.reporting.Options as declared
use Rattle.chr_run.specs.declared.error.RunError.TheVariants.{Memory}
use Rattle.chr_run.specs.declared.error.TextError.{TextError}
use Rattle.chr_run.specs.declared.error.TextError.TheVariants as error
use Rattle.chr_run.specs.declared.result.Run.{Run}

-- what is said of a refusal
abbrev pub refusal_text : TextError → List ℕ
refusal_text e = codes "chr: " ++ text_error_text e ++ codes "\n"

-- what is said of a file that is not read
abbrev pub unread_text : List ℕ → List ℕ
unread_text path = codes "chr: cannot read " ++ path ++ codes "\n"

-- what is said of a file that is not written
abbrev pub unwritten_text : List ℕ → List ℕ
unwritten_text path = codes "chr: cannot write " ++ path ++ codes "\n"

-- what is said of counts
abbrev pub counts_text : schedule.Counts → List ℕ
counts_text c = concat (codes "counts kept " ∷ decimal c.kept ∷ codes " late " ∷ decimal c.late ∷ codes " double " ∷ decimal c.double
    ∷ codes " used " ∷ decimal c.used ∷ codes " own " ∷ decimal c.own ∷ codes "\n" ∷ [])

-- what is said of totals
abbrev pub totals_text : Totals → List ℕ
totals_text t = concat (codes "totals put " ∷ decimal t.put ∷ codes " taken " ∷ decimal t.taken ∷ codes " posted " ∷ decimal t.posted
    ∷ codes " given_up " ∷ decimal t.given_up ∷ codes " drained " ∷ decimal t.drained ∷ codes " waiting " ∷ decimal t.waiting
    ∷ codes " left " ∷ decimal t.left ∷ codes "\n" ∷ [])

-- the exit status of a run
abbrev pub status_code : Status → ℕ
status_code Running = 5
status_code Done = 0
status_code Failed = 3
status_code (Faulted f) = 4

-- what is asked of a run beside its program and its query
pub record Options : Type 0 where
  pub budget : Option ℕ
  pub workers : Option ℕ
  pub recorded : Option (List ℕ)
  pub totals : Bool

-- the same of the code's type
abbrev pub options_view : declared.Options → Options
options_view a = record { budget = a.budget; workers = a.workers; recorded = option_map (λ t. t.now) a.record_path; totals = a.totals }

-- nothing is asked of it
abbrev pub is_silent : Options → Bool
is_silent a = not (is_some a.budget || (is_some a.workers || (is_some a.recorded || a.totals)))

-- the budget, or 100,000 where none is said
abbrev pub budget_of : Options → ℕ
budget_of a = unwrap_or a.budget 100000

-- the workers, or none
abbrev pub workers_of : Options → ℕ
workers_of a = unwrap_or a.workers 0

-- these bytes were written to the file of this path
abbrev pub IsWritten : {S : Type 0} → (List ℕ → Option (List ℕ)) → (S → Option (List ℕ)) → List ℕ → List ℕ → Type 0
IsWritten {S} fresh contents path bytes = (sink : S) × Appends (fresh path) (contents sink) bytes

-- whether the schedule is in the file that is asked for; else it is said why not
abbrev pub Records : (List ℕ → List ℕ → Type 0) → Option (List ℕ) → List schedule.Event → Option (List ℕ) → Option (List ℕ) → Bool → Type 0
Records written None es before after true = after ≡ before
Records written None es before after false = ⊥
Records written (Some path) es before after true = written path (schedule_text es) × (after ≡ before)
Records written (Some path) es before after false = AppendsPart before after (unwritten_text path) ⊎ AppendsPart before after (refusal_text (error.Run Memory))

module _ {A : Type 0} where
  -- what is said of a run
  abbrev pub Said : Bool → Run A → Option (List ℕ) → Option (List ℕ) → Type 0
  Said false run before after = after ≡ before
  Said true run before after = AppendsPart before after (counts_text (counts_view run.counts) ++ totals_text run.totals)

  -- what follows a run: its schedule is recorded where that is asked for, and then its numbers are said, or the record fails
  abbrev pub Follows : (List ℕ → List ℕ → Type 0) → Options → Run A → Option (List ℕ) → Option (List ℕ) → ℕ → Type 0
  Follows written a run before after code =
      (Records written a.recorded (events_view run.schedule.items) before before true × Said a.totals run before after × (code ≡ status_code run.outcome.status))
      ⊎ (Records written a.recorded (events_view run.schedule.items) before after false × (code ≡ 2))
