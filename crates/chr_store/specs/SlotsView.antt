-- What slots hold.
use Rattle.std.specs.Prelude.{ℕ, ◌+◌, List, length}
use Rattle.chr_semantics.specs.Match as semantics
use Rattle.chr_store.specs.Rows.{rows_from}
use Rattle.chr_store.specs.declared.slots.Slots.{Slots}

-- the constraints with their identities, ascending
abbrev pub rows_in : {A : Type 0} → Slots A → List semantics.Row
rows_in s = rows_from 1 s.items.items

-- the identity that the next one gets
abbrev pub next_in : {A : Type 0} → Slots A → ℕ
next_in s = length s.items.items + 1
