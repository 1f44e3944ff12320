-- What a `Store` shows.
use Rattle.chr_semantics.specs.Changes as semantics
use Rattle.chr_store.specs.Counts.{count_at}
use Rattle.chr_store.specs.SlotsView.{next_in, rows_in}
use Rattle.chr_store.specs.declared.store.Store.{Store}

-- its constraints with their identities, the next identity, the stamps of the symbols, and how many calls have changed it
abbrev pub store_view : {A : Type 0} → Store A → semantics.Store
store_view s = record { rows = rows_in s.slots; next_id = next_in s.slots; stamps = count_at s.stamps.stamps.items; changes = s.changes }
