-- What a run answers, with however many workers: what one thread gives.
use Rattle.std.specs.Prelude.{◌≡◌, ℕ, Option, Some, None}
use Rattle.chr_semantics.specs.Names.{Names}
use Rattle.chr_semantics.specs.Outcome.{RunRefusal, budget_too_large, run_refusal, too_many_workers}
use Rattle.chr_semantics.specs.Policy.{IsPolicy, IsTied}
use Rattle.chr_semantics.specs.Program.{Program, Query}
use Rattle.chr_semantics.specs.State.{start}
use Rattle.chr_schedule.specs.EventView.{events_view}
use Rattle.chr_core.specs.CoreView.{counts_view}
use Rattle.chr_core.specs.Outcomes.{IsOutcomeOf}
use Rattle.chr_policy.specs.declared.coordinator.Made.{Made}
use Rattle.chr_run.specs.declared.error.RunError.{RunError}
use Rattle.chr_run.specs.declared.error.RunError.TheVariants.{BudgetTooLarge, Memory, TooManyWorkers}
use Rattle.chr_run.specs.declared.result.Run.{Run}

-- the refusal that the error tells; with Memory there is none
abbrev pub refusal_as : RunError → Option RunRefusal
refusal_as BudgetTooLarge = Some budget_too_large
refusal_as TooManyWorkers = Some too_many_workers
refusal_as Memory = None

-- the limits refuse the run, for this reason
abbrev pub PastLimits : ℕ → ℕ → RunError → Type 0
PastLimits n workers Memory = ⊥
PastLimits n workers e = run_refusal n workers ≡ refusal_as e

-- The limits allow the run. What it has come to is what the first n transitions give on one thread, in all parts. No event of its schedule
-- is refused, its Steps are these transitions, its counts are those of the schedule, and it keeps to the policy.
pub record IsRun {A : Type 0} (names : Names) (p : Program) (q : Query) (n workers : ℕ) (r : Run A) : Type 0 where
  pub allowed : run_refusal n workers ≡ None
  pub outcome : IsOutcomeOf names p q n r.outcome
  pub tied : IsTied p (start q) n (counts_view r.counts) (events_view r.schedule.items)
  pub policy : IsPolicy p (start q) workers r.skipped (events_view r.schedule.items)

-- it has come to what was made
pub record IsOf {A : Type 0} (m : Made A) (r : Run A) : Type 0 where
  pub outcome_is : r.outcome ≡ m.outcome
  pub counts_are : counts_view r.counts ≡ counts_view m.counts
  pub schedule_is : events_view r.schedule.items ≡ events_view m.schedule.items
  pub skipped_are : r.skipped ≡ m.skipped
