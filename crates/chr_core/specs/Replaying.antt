-- A schedule that is replayed, event by event.
use Rattle.std.specs.Prelude.{◌≡◌, ◌++◌, ◌∷◌, [], ℕ, IfErr, List, Option, OnOk, Result, Some, None}
use Rattle.chr_semantics.specs.Names.{Names}
use Rattle.chr_semantics.specs.Program.{Program, Query}
use Rattle.chr_semantics.specs.Schedule.{Event, Refusal, counts, first_refusal, no_progress, performed, progress, refusal, too_many_rounds, too_many_steps, unknown_round, unknown_task}
use Rattle.chr_semantics.specs.State.{start}
use Rattle.boxcar.specs.Table.{Shelves}
use Rattle.chr_rules.specs.ProgramView.{rules_of}
use Rattle.chr_rules.specs.declared.program.Program as checked
use Rattle.chr_shelf.specs.declared.run.RunName.{Ghosts}
use Rattle.chr_machine.specs.declared.outcome.Outcome.{Outcome}
use Rattle.chr_core.specs.CoreView.{IsSameRun, counts_view, events_of, names_in, progress_of, query_of, start_of}
use Rattle.chr_core.specs.Outcomes.{IsOutcomeOf}
use Rattle.chr_core.specs.declared.run_core.Core.{Core}
use Rattle.chr_core.specs.declared.run_core.Counts.{Counts}
use Rattle.chr_core.specs.declared.error.ReplayError.{ReplayError}
use Rattle.chr_core.specs.declared.error.ReplayError.TheVariants.{Memory, TooManyRounds, TooManySteps, UnknownRound, UnknownTask}

-- no event of these is refused, and they were performed; `steps` is how many of them are Steps
pub record HasReplayed (p : Program) (r : Query) (es done : List Event) (steps : ℕ) : Type 0 where
  pub accepted : first_refusal p (start r) no_progress 0 es ≡ None
  pub done_are : done ≡ performed p (start r) es
  pub steps_are : steps ≡ (progress p (start r) es).steps

-- the error is this refusal, or want of memory
abbrev pub IsRefusal : Option Refusal → ReplayError → Type 0
IsRefusal r (UnknownRound k) = r ≡ Some (unknown_round k)
IsRefusal r (UnknownTask k) = r ≡ Some (unknown_task k)
IsRefusal r Memory = Unit {0}
IsRefusal r (TooManyRounds k) = r ≡ Some (too_many_rounds k)
IsRefusal r (TooManySteps k) = r ≡ Some (too_many_steps k)

-- no event is refused; what the run has come to is what its Steps lead to, in all parts, and the counts are those of the schedule
pub record Replays {A : Type 0} (names : Names) (p : Program) (r : Query) (es : List Event) (made : Outcome A × Counts) : Type 0 where
  pub accepted : first_refusal p (start r) no_progress 0 es ≡ None
  pub outcome : IsOutcomeOf names p r (progress p (start r) es).steps made.0
  pub counts_are : counts_view made.1 ≡ counts p (start r) es

-- a shelf is the one that a run's name has, and a program has its rules
pub record IsOfRun {A : Type 0} (its_shelf : Shelves) (its_rules : Program) (shelf : Shelves) (program : checked.Program A) : Type 0 where
  pub name : shelf ≡ its_shelf
  pub rules : rules_of program ≡ its_rules

module _ {J A : Type 0} {G : Ghosts J} where
  -- why an event, at a place in a schedule, is refused after those of a core, if it is
  abbrev pub refusal_after : Core J A G → ℕ → Event → Option Refusal
  refusal_after c place e = refusal G.rules (start_of c) (progress_of c) place e

  -- it has the same query, and the same names
  pub record IsSameQuery (old new : Core J A G) : Type 0 where
    pub query_is : query_of new ≡ query_of old
    pub names_are : names_in new ≡ names_in old

  -- a Publish or an arrival, at a place in a schedule, was replayed: it is not refused, and the core has its event; or it was not, and why
  pub record IsReplayed (old new : Core J A G) (place : ℕ) (e : Event) {T : Type 0} (o : Result T ReplayError) : Type 0 where
    pub there : OnOk o (refusal_after old place e ≡ None)
    pub events : OnOk o (events_of new ≡ events_of old ++ e ∷ [])
    pub run : IsSameRun old new
    pub err : IfErr o (IsRefusal (refusal_after old place e))
