-- What the parts of the state of a run stand for.
use Rattle.std.specs.Prelude.{ℕ, List, [], ◌∷◌}
use Rattle.chr_semantics.specs.Changes.{Entries, Store}
use Rattle.chr_semantics.specs.State as semantics
use Rattle.chr_semantics.specs.State.{Element, goal, known, active, State}
use Rattle.chr_semantics.specs.Subst.{Subst}
use Rattle.chr_term.specs.TermView.{atom_over}
use Rattle.chr_bind.specs.Values.{fault_view}
use Rattle.chr_rules.specs.RuleView.{goal_view}
use Rattle.chr_trace.specs.declared.state.Elem.{Elem}
use Rattle.chr_trace.specs.declared.state.Elem.TheVariants.{Goal as On, Known, Active}
use Rattle.chr_trace.specs.declared.state.Status.{Status}
use Rattle.chr_trace.specs.declared.state.Status.TheVariants.{Running, Done, Failed, Faulted}

abbrev pub elem_view : {A : Type 0} → Elem A → Element
elem_view (On g) = goal (goal_view g)
elem_view (Known i f ts) = known i.0 (atom_over f ts)
elem_view (Active i j f ts) = active i.0 j (atom_over f ts)

-- the last element is the top
abbrev pub stack_onto : {A : Type 0} → List (Elem A) → List Element → List Element
stack_onto [] below = below
stack_onto (e ∷ es) below = stack_onto es (elem_view e ∷ below)

abbrev pub stack_view : {A : Type 0} → List (Elem A) → List Element
stack_view es = stack_onto es []

abbrev pub status_view : Status → semantics.Status
status_view Running = semantics.running
status_view Done = semantics.done
status_view Failed = semantics.failed
status_view (Faulted f) = semantics.faulted (fault_view f)

-- the state of the definitions that parts make: how the run stands, its stack, store, entries and bindings, and the next variable
abbrev pub state_from : {A : Type 0} → Status → List (Elem A) → Store → Entries → Subst → ℕ → State
state_from status stack store entries subst next_var = record {
  stack = stack_view stack;
  store = store.rows;
  subst = subst;
  history = entries.list;
  next_id = store.next_id;
  next_var = next_var;
  status = status_view status;
}
