-- What a run has come to.
use Rattle.std.specs.Prelude.{◌≡◌, ℕ}
use Rattle.chr_semantics.specs.Calls.{rise_by_calls}
use Rattle.chr_semantics.specs.Names.{Names}
use Rattle.chr_semantics.specs.Outcome.{outcome_after}
use Rattle.chr_semantics.specs.Program.{Program, Query}
use Rattle.chr_semantics.specs.Stamps.{stamp}
use Rattle.chr_semantics.specs.State.{start}
use Rattle.chr_semantics.specs.Step.{steps}
use Rattle.chr_semantics.specs.Touch.{Mark}
use Rattle.chr_store.specs.HistoryView.{entries_view}
use Rattle.chr_store.specs.StoreView.{store_view}
use Rattle.chr_machine.specs.OutcomeView.{outcome_view}
use Rattle.chr_machine.specs.declared.outcome.Outcome.{Outcome}
use Rattle.chr_core.specs.Marks.{mark_stamp}

-- it is what the first n transitions of a query give on one thread, and its stamps rose as they do in these
pub record IsOutcomeOf {A : Type 0} (names : Names) (p : Program) (r : Query) (n : ℕ) (o : Outcome A) : Type 0 where
  pub outcome_is : outcome_view o ≡ outcome_after names p r n
  pub stamps_are : (x : Mark) → mark_stamp (store_view o.store) (entries_view o.history) x ≡ stamp p (rise_by_calls p) (start r) (steps p (start r) n) x
