-- The rows of a bucket.
use Rattle.std.specs.Prelude.{List, [], ◌∷◌}
use Rattle.std.specs.Arc.{arc_value}
use Rattle.chr_store.specs.declared.id.Id.{Id}
use Rattle.chr_store.specs.declared.row.Row.{Row}
use Rattle.chr_find.specs.declared.bucket_rows.Held.{Held}
use Rattle.chr_find.specs.declared.bucket_rows.Held.TheVariants.{Many, One}

module _ {A : Type 0} where
  abbrev pub held_rows : Held A → List (Id × Row A)
  held_rows (One i r) = (i, r) ∷ []
  held_rows (Many rows) = (arc_value rows).map
