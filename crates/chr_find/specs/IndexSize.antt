-- How many rows an index has in its buckets.
use Rattle.std.specs.Prelude.{ℕ, ◌+◌, List, [], ◌∷◌, length}
use Rattle.chr_store.specs.declared.id.Id.{Id}
use Rattle.chr_store.specs.declared.row.Row.{Row}
use Rattle.chr_find.specs.declared.bucket.Bucket.{Bucket}
use Rattle.chr_find.specs.declared.index.Index.{Index}

module _ {A : Type 0} where
  abbrev pub total : List (Bucket × List (Id × Row A)) → ℕ
  total [] = 0
  total (e ∷ es) = length e.1 + total es

  abbrev pub index_size : Index A → ℕ
  index_size x = length x.all + total x.buckets
