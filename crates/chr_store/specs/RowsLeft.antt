-- What is left of a walk over a store.
use Rattle.std.specs.Prelude.{List}
use Rattle.std.specs.Borrow.{Bor}
use Rattle.chr_semantics.specs.Match as semantics
use Rattle.chr_store.specs.Rows.{row_atom, rows_from}
use Rattle.chr_store.specs.declared.id.Id.{Id}
use Rattle.chr_store.specs.declared.row.Row.{Row}
use Rattle.chr_store.specs.declared.rows.Rows.{Rows}

abbrev pub rows_left : {A : Type 0} → Rows A → List semantics.Row
rows_left w = rows_from w.next w.slots.now

-- an item, as a row
abbrev pub shown_row : {A : Type 0} → Id × Bor (Row A) → semantics.Row
shown_row p = (p.0.0, row_atom p.1.now)
