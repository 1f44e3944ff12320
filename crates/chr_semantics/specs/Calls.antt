-- The calls that a transition makes on the store and the history, and by how much they raise the stamps (this project's own).
use Rattle.std.specs.Prelude.{◌≡◌, ℕ, ◌+◌, cond, drop, List, [], ◌∷◌}
use Rattle.std.specs.List.{fold}
use Rattle.chr_semantics.specs.Program.{Goal, constraint, tell, evaluate, compare, fail, Program}
use Rattle.chr_semantics.specs.Search.{Found, no_occurrence, no_firing, firing, ids_of}
use Rattle.chr_semantics.specs.State.{Element, goal, known, active, Status, running, done, failed, faulted, State}
use Rattle.chr_semantics.specs.Step.{search_at, solve, step}
use Rattle.chr_semantics.specs.Touch.{symbol, rule, binds}
use Rattle.chr_semantics.specs.Changes.{Entries, Store, added, entered, rebound, removed, woken}
use Rattle.chr_semantics.specs.Stamps.{IsRise, Rise}
use Rattle.chr_semantics.specs.Footprint.{IsSound}

-- a new binding touches what was not ground before it
abbrev pub bind_calls : State → State → Store → Store
bind_calls s t m = cond (binds s t) (rebound m (woken m s.subst)) m

-- an Activate adds
abbrev pub goal_calls : State → List Element → Goal → Store → Store
goal_calls s rest (constraint a) m = added m a
goal_calls s rest (tell t u) m = bind_calls s (solve s rest (tell t u)) m
goal_calls s rest (evaluate t u) m = bind_calls s (solve s rest (evaluate t u)) m
goal_calls s rest (compare c t u) m = m
goal_calls s rest fail m = m

-- a firing removes, in head order
abbrev pub found_calls : Found → Store → Store
found_calls no_occurrence m = m
found_calls no_firing m = m
found_calls (firing n r place t) m = fold removed m (drop r.kept (ids_of t))

abbrev pub top_calls : Program → State → List Element → Store → Store
top_calls p s [] m = m
top_calls p s (goal g ∷ rest) m = goal_calls s rest g m
top_calls p s (known i a ∷ rest) m = m
top_calls p s (active i j a ∷ rest) m = found_calls (search_at p s i j a) m

abbrev pub status_calls : Program → State → Status → Store → Store
status_calls p s running m = top_calls p s s.stack m
status_calls p s done m = m
status_calls p s failed m = m
status_calls p s (faulted f) m = m

-- the store after the calls of the transition from a state
abbrev pub store_calls : Program → State → Store → Store
store_calls p s m = status_calls p s s.status m

-- and the history: a firing is entered
abbrev pub found_entry : Found → Entries → Entries
found_entry no_occurrence h = h
found_entry no_firing h = h
found_entry (firing n r place t) h = entered h n (ids_of t)

abbrev pub top_entry : Program → State → List Element → Entries → Entries
top_entry p s [] h = h
top_entry p s (goal g ∷ rest) h = h
top_entry p s (known i a ∷ rest) h = h
top_entry p s (active i j a ∷ rest) h = found_entry (search_at p s i j a) h

abbrev pub status_entry : Program → State → Status → Entries → Entries
status_entry p s running h = top_entry p s s.stack h
status_entry p s done h = h
status_entry p s failed h = h
status_entry p s (faulted f) h = h

abbrev pub history_calls : Program → State → Entries → Entries
history_calls p s h = status_entry p s s.status h

-- the store and the history of a state, before any call
abbrev pub store_of : State → Store
store_of s = record { rows = s.store; next_id = s.next_id; stamps = λ f. 0; changes = 0 }

abbrev pub entries_of : State → Entries
entries_of s = record { list = s.history; stamps = λ r. 0 }

-- by how much the calls of a transition raise the stamp of a mark
abbrev pub rise_by_calls : Program → Rise
rise_by_calls p s (symbol f) = (store_calls p s (store_of s)).stamps f
rise_by_calls p s (rule r) = (history_calls p s (entries_of s)).stamps r

-- The calls make the transition's store and history, and raise the stamps as said, whatever these were; and those rise as stamps do.
pub record CallsLaw : Type 0 where
  pub rows : (p : Program) (s : State) (m : Store) → IsSound s → m.rows ≡ s.store → m.next_id ≡ s.next_id → (let n = store_calls p s m in (n.rows ≡ (step p s).store) × (n.next_id ≡ (step p s).next_id))
  pub stamps : (p : Program) (s : State) (m : Store) → IsSound s → m.rows ≡ s.store → (f : ℕ) → (store_calls p s m).stamps f ≡ m.stamps f + rise_by_calls p s (symbol f)
  pub entries : (p : Program) (s : State) (h : Entries) → h.list ≡ s.history → (history_calls p s h).list ≡ (step p s).history
  pub entry_stamps : (p : Program) (s : State) (h : Entries) → h.list ≡ s.history → (r : ℕ) → (history_calls p s h).stamps r ≡ h.stamps r + rise_by_calls p s (rule r)
  pub rise : (p : Program) → IsRise p (rise_by_calls p)
