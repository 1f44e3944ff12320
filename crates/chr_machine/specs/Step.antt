-- What a transition of the machine does.
use Rattle.std.specs.Prelude.{◌≡◌, ℕ, ◌+◌, ◌*◌, ◌<◌, ◌≤◌, ◌++◌, List, [], ◌∷◌, vec_len}
use Rattle.chr_semantics.specs.declared.limits.TheConstants.{MAX_CHANGES, MAX_HEADS, MAX_TRANSITIONS}
use Rattle.chr_semantics.specs.Bounds.{AreBounded, IsWithin}
use Rattle.chr_semantics.specs.Calls.{top_calls, top_entry}
use Rattle.chr_semantics.specs.Footprint.{IsSound}
use Rattle.chr_semantics.specs.Program.{Program}
use Rattle.chr_semantics.specs.State.{Element, State, running}
use Rattle.chr_semantics.specs.Step.{step_top}
use Rattle.chr_semantics.specs.Text.{line_texts}
use Rattle.chr_semantics.specs.Trace.{line_top}
use Rattle.chr_trace.specs.State.{status_view}
use Rattle.chr_machine.specs.Model.{CourseModel, Model, model_of, model_with, state_in}
use Rattle.chr_machine.specs.declared.execution.Execution.{Execution}

-- what holds of each state of a run of the program
pub record IsProper (p : Program) (s : State) : Type 0 where
  pub bounded : AreBounded p
  pub sound : IsSound s
  pub within : IsWithin s

-- a run that goes on has a top
abbrev pub IsReady : {A : Type 0} → Execution A → Type 0
IsReady m = status_view m.status ≡ running → 0 < vec_len m.stack

-- the next identity and the changes of the store are bounded by the number of transitions
pub record IsCounted (m : Model) : Type 0 where
  pub limit : m.steps ≤ MAX_TRANSITIONS
  pub given : m.base.store.next_id ≤ m.steps + 1
  pub changed : m.base.store.changes ≤ MAX_HEADS * m.steps

-- the parts that no transition changes
pub record SameRun (m n : Model) : Type 0 where
  pub names : n.names ≡ m.names
  pub rules : n.rules ≡ m.rules
  pub var_names : n.var_names ≡ m.var_names

-- what holds of each execution between two transitions
pub record IsSteady {A : Type 0} (e : Execution A) : Type 0 where
  pub ready : IsReady e
  pub counted : IsCounted (model_of e)
  pub proper : IsProper (model_of e).rules (state_in (model_of e))

-- one transition more, with at most one identity, and no more changes of the store than a rule has heads
pub record Counts (m n : Model) : Type 0 where
  pub steps : n.steps ≡ m.steps + 1
  pub given : n.base.store.next_id ≤ m.base.store.next_id + 1
  pub changed : n.base.store.changes ≤ m.base.store.changes + MAX_HEADS

-- n is a transition further than m, which runs and has a top
pub record Makes (m n : Model) : Type 0 where
  pub state : state_in n ≡ step_top m.rules (state_in m) m.stack
  pub store : n.base.store ≡ top_calls m.rules (state_in m) m.stack m.base.store
  pub entries : n.base.entries ≡ top_entry m.rules (state_in m) m.stack m.base.entries
  pub lines : n.lines ≡ m.lines ++ line_texts m.names m.var_names (m.steps + 1) (line_top m.rules (state_in m) m.stack)
  pub counts : Counts m n
  pub same : SameRun m n

-- whatever lies below it, the transition with e on top can be made
pub record CanMove (c : CourseModel) (e : Element) : Type 0 where
  pub rest : List Element
  pub few : c.steps < MAX_TRANSITIONS
  pub changes : c.base.store.changes + MAX_HEADS ≤ MAX_CHANGES
  pub proper : IsProper c.rules (state_in (model_with (e ∷ rest) running c))

-- what each private step of an execution needs
pub record CanStep (m : Model) : Type 0 where
  pub runs : m.status ≡ running
  pub few : m.steps < MAX_TRANSITIONS
  pub changes : m.base.store.changes + MAX_HEADS ≤ MAX_CHANGES
  pub proper : IsProper m.rules (state_in m)

-- and what it leaves: the transition is made
pub record Made {A : Type 0} (old new : Execution A) : Type 0 where
  pub makes : Makes (model_of old) (model_of new)
  pub ready : IsReady new
