-- Rows of a bucket that stand next to each other.
use Rattle.std.specs.Prelude.{List, [], ◌∷◌}
use Rattle.chr_semantics.specs.Match as semantics
use Rattle.chr_store.specs.Rows.{row_atom}
use Rattle.chr_find.specs.IdRows.{id_rows}
use Rattle.chr_find.specs.declared.bucket_rows.RowSpan.{RowSpan}
use Rattle.chr_find.specs.declared.bucket_rows.RowSpan.TheVariants.{Empty, Many, One}

module _ {A : Type 0} where
  abbrev pub span_rows : RowSpan A → List semantics.Row
  span_rows Empty = []
  span_rows (One i r) = (i.0, row_atom r.now) ∷ []
  span_rows (Many rows) = id_rows rows
