-- The rows of a bucket after a change.
use Rattle.std.specs.Prelude.{cond, List}
use Rattle.chr_map.specs.Order.{entry_put, entry_removed}
use Rattle.chr_store.specs.declared.id.Id.{Id}
use Rattle.chr_store.specs.declared.row.Row.{Row}
use Rattle.chr_find.specs.IdRows.{id_cmp}
use Rattle.chr_find.specs.declared.index.Change.{Change}

module _ {A : Type 0} where
  abbrev pub rows_changed : Change A → List (Id × Row A) → List (Id × Row A)
  rows_changed c rows = cond c.is_there (entry_put id_cmp rows c.id c.row) (entry_removed id_cmp rows c.id)
