-- The state of a run (Duck et al. 2004, section 3: the execution state).
use Rattle.std.specs.Prelude.{ℕ, List, [], ◌∷◌, map, length}
use Rattle.chr_semantics.specs.Subst.{Subst, value_at, instances}
use Rattle.chr_semantics.specs.Value.{Fault}
use Rattle.chr_semantics.specs.Program.{Atom, Goal, Query}
use Rattle.chr_semantics.specs.Match.{Row}
use Rattle.chr_semantics.specs.Search.{History}

-- an element of the stack: a goal, an identified constraint c#i, or an active one c#i:j. Each carries its goal, also after its
-- constraint left the store.
pub data Element : Type 0 where
  goal : Goal → Element
  known : ℕ → Atom → Element
  active : ℕ → ℕ → Atom → Element

pub data Status : Type 0 where
  running : Status
  done : Status
  failed : Status
  faulted : Fault → Status

-- the stack from the top down, the store by ascending identity, the bindings as a solved substitution, the history in order of entry
pub record State : Type 0 where
  pub stack : List Element
  pub store : List Row
  pub subst : Subst
  pub history : History
  pub next_id : ℕ
  pub next_var : ℕ
  pub status : Status

abbrev pub resolved_atom : Subst → Atom → Atom
resolved_atom s a = record { sym = a.sym; args = instances (value_at s) a.args }

-- the store with the bindings applied
abbrev pub rows : State → List Row
rows s = map (λ (r : Row). (r.0, resolved_atom s.subst r.1)) s.store

-- a run is done as soon as its stack is empty
abbrev pub status_at : List Element → Status
status_at [] = done
status_at (e ∷ es) = running

abbrev pub with_stack : State → List Element → State
with_stack s es = record s { stack = es; status = status_at es }

-- the state of a query before its first transition
abbrev pub start : Query → State
start q =
    let es = map (λ g. goal g) q.goals in
    record { stack = es; store = []; subst = []; history = []; next_id = 1; next_var = length q.var_names; status = status_at es }
