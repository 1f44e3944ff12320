-- What stands in a table after what is noted.
use Rattle.std.specs.Prelude.{cond, Option}
use Rattle.chr_store.specs.declared.row.Row.{Row}
use Rattle.chr_find.specs.IndexKeys.{IndexKey, is_key_of, row_if}
use Rattle.chr_find.specs.PlanView.{lookups_of}
use Rattle.chr_find.specs.declared.index.Change.{Change}
use Rattle.chr_find.specs.declared.index_change.IndexChange.{IndexChange}
use Rattle.chr_find.specs.declared.index_change.IndexChange.TheVariants.{Changed, Replaced}
use Rattle.chr_find.specs.declared.plan.Plan.{Plan}

module _ {A : Type 0} where
  -- the rows after a change of them
  abbrev pub changed_at : Plan A → Change A → (IndexKey → Option (Row A)) → IndexKey → Option (Row A)
  changed_at p c f q = cond (is_key_of (lookups_of p c.row.sym.0) c.id.0 c.row q) (row_if c.is_there c.row) (f q)

  -- and after what is noted
  abbrev pub rows_after : Plan A → IndexChange A → (IndexKey → Option (Row A)) → IndexKey → Option (Row A)
  rows_after p (Changed c) f q = changed_at p c f q
  rows_after p (Replaced c d) f q = changed_at p d (changed_at p c f) q
