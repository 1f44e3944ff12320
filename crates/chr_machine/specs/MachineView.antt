-- What a `Machine` shows, and what its calls do to that.
use Rattle.std.specs.Prelude.{◌≡◌, ◌≢◌, ℕ, ◌+◌, ◌-◌, ◌<◌, ◌≤◌, [], ◌++◌, Result, IfOk, OnErr}
use Rattle.std.specs.declared.alloc.AllocError.{AllocError}
use Rattle.chr_semantics.specs.Calls.{history_calls, store_calls}
use Rattle.chr_semantics.specs.Changes.{empty_store, no_entries}
use Rattle.chr_semantics.specs.Names.{Names}
use Rattle.chr_semantics.specs.Program.{Program, Query}
use Rattle.chr_semantics.specs.State.{running, start}
use Rattle.chr_semantics.specs.Step.{after, step, steps as step_count}
use Rattle.chr_semantics.specs.Text.{line_texts, trace}
use Rattle.chr_semantics.specs.Trace.{line}
use Rattle.chr_semantics.specs.declared.limits.TheConstants.{MAX_TRANSITIONS}
use Rattle.chr_machine.specs.Model.{Model, model_of, state_in}
use Rattle.chr_machine.specs.Step.{SameRun}
use Rattle.chr_machine.specs.declared.stepped.Stepped.{Stepped}
use Rattle.chr_machine.specs.declared.stepped.Stepped.TheVariants.{Moved, Ended, Spent}
use Rattle.chr_machine.specs.declared.machine.Machine.{Machine}

abbrev pub machine_view : {A : Type 0} → Machine A → Model
machine_view m = model_of m.execution

-- at the start of a query
pub record Starts (names : Names) (rules : Program) (query : Query) (m : Model) : Type 0 where
  pub names_are : m.names ≡ names
  pub rules_are : m.rules ≡ rules
  pub var_names_are : m.var_names ≡ query.var_names
  pub state_is : state_in m ≡ start query
  pub store_is : m.base.store ≡ empty_store
  pub entries_are : m.base.entries ≡ no_entries
  pub steps_are : m.steps ≡ 0
  pub lines_are : m.lines ≡ []

-- a transition further, made from a running state: the state, the calls on the store and the history, and the line
pub record Moves (m n : Model) : Type 0 where
  pub running_is : m.status ≡ running
  pub few : m.steps < MAX_TRANSITIONS
  pub state_is : state_in n ≡ step m.rules (state_in m)
  pub store_is : n.base.store ≡ store_calls m.rules (state_in m) m.base.store
  pub entries_are : n.base.entries ≡ history_calls m.rules (state_in m) m.base.entries
  pub lines_are : n.lines ≡ m.lines ++ line_texts m.names m.var_names (m.steps + 1) (line m.rules (state_in m))
  pub steps_are : n.steps ≡ m.steps + 1
  pub same : SameRun m n

-- what an answer of `step` says
abbrev pub Steps : Stepped → Model → Model → Type 0
Steps Moved m n = Moves m n
Steps Ended m n = (m.status ≢ running) × (n ≡ m)
Steps Spent m n = (m.status ≡ running) × (MAX_TRANSITIONS ≤ m.steps) × (n ≡ m)

-- a transition is due: the run goes on, and the limit does not stand
pub record IsDue (m : Model) : Type 0 where
  pub running_is : m.status ≡ running
  pub few : m.steps < MAX_TRANSITIONS

-- a step that is refused memory: it was due, and nothing has changed
pub record IsRefused (m n : Model) : Type 0 where
  pub due : IsDue m
  pub same : n ≡ m

-- k transitions further, each made from a running state, with their lines
pub record Further (k : ℕ) (m n : Model) : Type 0 where
  pub made : step_count m.rules (state_in m) k ≡ k
  pub state_is : state_in n ≡ after m.rules (state_in m) k
  pub lines_are : n.lines ≡ m.lines ++ trace m.names m.var_names m.rules (state_in m) (m.steps + 1) k
  pub steps_are : n.steps ≡ m.steps + k
  pub same : SameRun m n

-- What an answer of `run_alone` says after it made k transitions. Where the run has ended, these are all that the first n steps have.
abbrev pub Stops : Stepped → ℕ → ℕ → Model → Model → Type 0
Stops Moved n k old new = (k ≡ n) × (new.status ≡ running)
Stops Ended n k old new = (k ≤ n) × (k ≡ step_count old.rules (state_in old) n) × (new.status ≢ running)
Stops Spent n k old new = (k < n) × (new.status ≡ running) × (MAX_TRANSITIONS ≤ new.steps)

pub record Runs (r : Result Stepped AllocError) (n : ℕ) (old new : Model) : Type 0 where
  pub further : Further (new.steps - old.steps) old new
  pub stops : IfOk r (λ stepped. Stops stepped n (new.steps - old.steps) old new)
  pub fewer : OnErr r (new.steps - old.steps < n)
  pub due : OnErr r (IsDue new)
