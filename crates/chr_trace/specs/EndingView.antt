-- What an `Ending` shows.
use Rattle.chr_semantics.specs.Changes.{Entries}
use Rattle.chr_semantics.specs.Search.{History}
use Rattle.chr_semantics.specs.State.{State}
use Rattle.chr_store.specs.HistoryView.{firings_view}
use Rattle.chr_store.specs.StoreView.{store_view}
use Rattle.chr_trace.specs.State.{state_from}
use Rattle.chr_trace.specs.declared.ending.Ending.{Ending}

-- these entries, with no stamp, which no text shows
abbrev pub listed : History → Entries
listed list = record { list = list; stamps = λ r. 0 }

-- the state that its parts make
abbrev pub ended_state : {A : Type 0} → Ending A → State
ended_state e = state_from e.status e.stack.now (store_view e.store.now) (listed (firings_view e.history.now)) e.bindings.now.subst e.bindings.now.len
