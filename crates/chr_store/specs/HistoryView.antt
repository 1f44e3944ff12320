-- What a `History` shows.
use Rattle.std.specs.Prelude.{ℕ, List, map}
use Rattle.chr_semantics.specs.Changes as semantics
use Rattle.chr_semantics.specs.Search as searches
use Rattle.chr_store.specs.Counts.{count_at}
use Rattle.chr_store.specs.declared.fired.Fired.{Fired}
use Rattle.chr_store.specs.declared.history.History.{History}

-- a firing: the number of its rule and its identities
abbrev pub fired_view : Fired → ℕ × List ℕ
fired_view f = (f.rule, f.ids)

abbrev pub firings_view : List Fired → searches.History
firings_view fs = map fired_view fs

-- the entries in order, and the stamps of the rules
abbrev pub entries_view : {A : Type 0} → History A → semantics.Entries
entries_view h = record { list = firings_view h.entries.keys; stamps = count_at h.stamps.stamps.items }
