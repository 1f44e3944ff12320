-- Snapshots: what a search for a task is handed, and what it answers there (this project's own).
use Rattle.std.specs.Prelude.{◌≡◌, ◌≢◌, ℕ, cond, not, ◌==◌, List, [], ◌∷◌, ◌++◌, Option, Some, None, option_and_then, option_map, filter, AllPairs}
use Rattle.chr_semantics.specs.Program.{Atom, Occurrence, Program, Query, occurrence}
use Rattle.chr_semantics.specs.Match.{Row}
use Rattle.chr_semantics.specs.Search.{History, atom_of, first, ids_of, live_entries, rule_entries}
use Rattle.chr_semantics.specs.State.{State, resolved_atom, rows, start}
use Rattle.chr_semantics.specs.Step.{after}
use Rattle.chr_semantics.specs.Tasks.{Task, guest, tasks}
use Rattle.chr_semantics.specs.Footprint.{IsSound, answer, with_guest}
use Rattle.chr_semantics.specs.Keys.{clashes}
use Rattle.chr_semantics.specs.Tries.{tries_bounds}

-- the rows and the guest with the bindings applied, entries of the history, the next identity, and the tasks
pub record Snapshot : Type 0 where
  pub rows : List Row
  pub history : History
  pub next_id : ℕ
  pub tasks : List Task
  pub guest : Option Atom

-- of a state, for these tasks and this guest, which is given as it stands on the stack
abbrev pub snapshot_for : State → List Task → Option Atom → Snapshot
snapshot_for s ts g = record { rows = rows s; history = live_entries (rows s) s.history; next_id = s.next_id; tasks = ts; guest = option_map (resolved_atom s.subst) g }

-- of a state, as it is published
abbrev pub snapshot_of : Program → State → Snapshot
snapshot_of p s = snapshot_for s (tasks p s) (guest s)

-- the rows that a search for the constraint i looks at: for the next identity the guest is added
abbrev pub with_last : List Row → ℕ → Option Atom → List Row
with_last rows n None = rows
with_last rows n (Some a) = rows ++ (n, a) ∷ []

abbrev pub rows_seen : Snapshot → ℕ → List Row
rows_seen q i = cond (i == q.next_id) (with_last q.rows q.next_id q.guest) q.rows

-- what the task finds in the snapshot
abbrev pub found_in : Program → Snapshot → Task → Option (List ℕ)
found_in p q t = first p (rows_seen q t.0) q.history t.0 t.1

-- the least and the most tries of that search
abbrev pub tries_in : Program → Snapshot → Task → ℕ × ℕ
tries_in p q t = tries_bounds p (rows_seen q t.0) q.history t.0 t.1

-- the occurrence of a task, where its constraint lives and has one
abbrev pub occurrence_of : Program → State → Task → Option Occurrence
occurrence_of p s t = option_and_then (λ (a : Atom). occurrence p a.sym t.1) (atom_of s.store t.0)

-- what the search at an occurrence looks at: the rows that do not clash with its rule, and the rule's entries
abbrev pub rows_at : State → Option Occurrence → List Row
rows_at s None = []
rows_at s (Some o) = filter (λ (c : Row). not (clashes o.rule c)) (rows s)

abbrev pub entries_at : State → Option Occurrence → History
entries_at s None = []
entries_at s (Some o) = rule_entries o.number (live_entries (rows s) s.history)

-- of a state, for one task: only what its search looks at, and no guest
abbrev pub snapshot_for_task : Program → State → Task → Snapshot
snapshot_for_task p s t = let o = occurrence_of p s t in record { rows = rows_at s o; history = entries_at s o; next_id = s.next_id; tasks = t ∷ []; guest = None }

-- In each state of a query's run a task finds in the published snapshot what it finds in the state, for the guest too; in a sound state
-- a task's own snapshot gives what the state does; and identities differ, with the guest too.
pub record SnapshotLaw : Type 0 where
  pub published : (p : Program) (r : Query) (n : ℕ) (t : Task) → (let s = after p (start r) n in found_in p (snapshot_of p s) t ≡ answer p s t)
  pub own : (p : Program) (s : State) (t : Task) → IsSound s → found_in p (snapshot_for_task p s t) t ≡ first p (rows s) s.history t.0 t.1
  pub different : (s : State) (g : Option Atom) → IsSound s → AllPairs (λ i j. i ≢ j) (ids_of (with_guest s g))

-- each state of a query's run is sound
abbrev pub SoundLaw : Type 0
SoundLaw = (p : Program) (r : Query) (n : ℕ) → IsSound (after p (start r) n)
