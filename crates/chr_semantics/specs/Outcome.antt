-- What a run of the first n transitions hands out: no schedule and no worker is in it (Duck et al. 2004, the execution state and its
-- transitions; the trace is this project's own).
use Rattle.std.specs.Prelude.{ℕ, List, Option, Some, None, cond, nat_lt}
use Rattle.chr_semantics.specs.Names.{Names, VarNames}
use Rattle.chr_semantics.specs.Program.{Program, Query}
use Rattle.chr_semantics.specs.State.{State, start}
use Rattle.chr_semantics.specs.Step.{after, steps}
use Rattle.chr_semantics.specs.Text.{trace}
use Rattle.chr_semantics.specs.declared.limits.TheConstants.{MAX_TRANSITIONS, MAX_WORKERS}

-- the state, the transitions made, their lines, and the names of the query's variables
pub record Outcome : Type 0 where
  pub state : State
  pub steps : ℕ
  pub lines : List (List ℕ)
  pub var_names : VarNames

abbrev pub outcome_of : State → ℕ → List (List ℕ) → VarNames → Outcome
outcome_of s n lines vars = record { state = s; steps = n; lines = lines; var_names = vars }

-- of the first n transitions of a query, on one thread
abbrev pub outcome_after : Names → Program → Query → ℕ → Outcome
outcome_after names p r n = outcome_of (after p (start r) n) (steps p (start r) n) (trace names r.var_names p (start r) 1 n) r.var_names

-- why a run is not begun, the first of these
pub data RunRefusal : Type 0 where
  budget_too_large : RunRefusal
  too_many_workers : RunRefusal

abbrev pub run_refusal : ℕ → ℕ → Option RunRefusal
run_refusal n workers = cond (nat_lt MAX_TRANSITIONS n) (Some budget_too_large) (cond (nat_lt MAX_WORKERS workers) (Some too_many_workers) None)
