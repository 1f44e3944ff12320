-- What an outcome shows.
use Rattle.chr_semantics.specs.Outcome as semantics
use Rattle.chr_semantics.specs.Outcome.{outcome_of}
use Rattle.chr_semantics.specs.State.{State}
use Rattle.chr_store.specs.HistoryView.{entries_view}
use Rattle.chr_store.specs.StoreView.{store_view}
use Rattle.chr_trace.specs.State.{stack_view, status_view}
use Rattle.chr_machine.specs.declared.outcome.Outcome.{Outcome}

-- the state that its parts make
abbrev pub ended_in : {A : Type 0} → Outcome A → State
ended_in o = record {
  stack = stack_view o.stack.items;
  store = (store_view o.store).rows;
  subst = o.bindings.subst;
  history = (entries_view o.history).list;
  next_id = (store_view o.store).next_id;
  next_var = o.bindings.len;
  status = status_view o.status;
}

abbrev pub outcome_view : {A : Type 0} → Outcome A → semantics.Outcome
outcome_view o = outcome_of (ended_in o) o.steps (o.lines.made) o.var_names
