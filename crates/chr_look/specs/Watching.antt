-- What a watched run shows.
use Rattle.std.specs.Prelude.{◌≡◌, ◌≢◌, ◌⊎◌, ◌<◌, ◌≤◌, ℕ, Some}
use Rattle.chr_semantics.specs.Names.{Names}
use Rattle.chr_semantics.specs.Program.{Atom, Program, Query}
use Rattle.chr_semantics.specs.Search.{atom_of}
use Rattle.chr_semantics.specs.State.{State, running, start}
use Rattle.chr_semantics.specs.Step.{after}
use Rattle.chr_semantics.specs.declared.limits.TheConstants.{MAX_TRANSITIONS}
use Rattle.chr_machine.specs.MachineView.{Further, Starts, machine_view}
use Rattle.chr_machine.specs.Model.{Model, state_in}
use Rattle.chr_look.specs.Leavings.{AreRemovals}
use Rattle.chr_look.specs.Logs.{IsLog}
use Rattle.chr_look.specs.LogView.{log_view}
use Rattle.chr_look.specs.declared.leaving.Removals.{Removals}
use Rattle.chr_look.specs.declared.watching.Watched.{Watched}

abbrev pub machine_in : {A : Type 0} → Watched A → Model
machine_in w = machine_view w.machine

-- the run stands after as many transitions of the query as it made, and its log is of these
pub record IsWatched {A : Type 0} (p : Program) (q : Query) (w : Watched A) : Type 0 where
  pub rules_are : (machine_in w).rules ≡ p
  pub state_is : state_in (machine_in w) ≡ after p (start q) (machine_in w).steps
  pub log_is : IsLog p (start q) (machine_in w).steps (log_view w.log)

-- a run of n transitions from the start of a query, or of fewer where it has ended or the limit stands
pub record IsRunOf (names : Names) (p : Program) (q : Query) (n : ℕ) (m : Model) : Type 0 where
  pub first : Model
  pub starts : Starts names p q first
  pub further : Further m.steps first m
  pub stops : (m.steps ≡ n) ⊎ ((m.steps < n) × ((m.status ≢ running) ⊎ (MAX_TRANSITIONS ≤ m.steps)))

-- what is told of an identity from 1 on is what the definitions say of it
abbrev pub Tells : {A X : Type 0} → (Program → State → ℕ → ℕ → X) → Watched A → ℕ → X → Type 0
Tells f w i x = (p : Program) (q : Query) → IsWatched p q w → 0 < i → x ≡ f p (start q) (machine_in w).steps i

-- the constraint of the identity after the k-th transition
abbrev pub HasAtom : {A : Type 0} → Watched A → ℕ → ℕ → Atom → Type 0
HasAtom w i k a = (p : Program) (q : Query) → IsWatched p q w → 0 < i → atom_of (after p (start q) k).store i ≡ Some a

-- which firings of the run removed constraints
abbrev pub AreRemovalsIn : {A : Type 0} → Watched A → Removals A → Type 0
AreRemovalsIn w r = AreRemovals (machine_in w).rules (machine_in w).base.entries.list r
