-- What stands in a table, as when all that is noted is made.
use Rattle.std.specs.Prelude.{◌≡◌, ◌≤◌, ℕ, Option, option_map}
use Rattle.chr_keys.specs.Changes.{after_all}
use Rattle.chr_semantics.specs.Program.{Atom}
use Rattle.chr_store.specs.Rows.{row_atom}
use Rattle.chr_store.specs.declared.row.Row.{Row}
use Rattle.chr_find.specs.IndexChangeView.{rows_after}
use Rattle.chr_find.specs.IndexKeys.{IndexKey, held}
use Rattle.chr_find.specs.PlanView.{lookups_of}
use Rattle.chr_find.specs.Shown.{Shows}
use Rattle.chr_find.specs.declared.bucket.Bucket.TheVariants.{All}
use Rattle.chr_find.specs.declared.pending_index.PendingIndex.{PendingIndex}

module _ {A : Type 0} where
  -- the row at a place
  abbrev pub row_at : PendingIndex A → IndexKey → Option (Row A)
  row_at n q = after_all (rows_after n.plan) n.pending.left (held n.rows) q

  -- all is made
  abbrev pub IsSettled : PendingIndex A → Type 0
  IsSettled n = (q : IndexKey) → row_at n q ≡ held n.rows q

  -- there is room for this number of further notes
  abbrev pub HasRoom : ℕ → PendingIndex A → Type 0
  HasRoom k n = k ≤ n.pending.room

  -- the constraint of an identity
  abbrev pub indexed_atom : PendingIndex A → ℕ → Option Atom
  indexed_atom n i = option_map row_atom (row_at n (record { bucket = All; id = record { 0 = i } }))

  -- each place has the constraint of its identity, if that is in the list
  abbrev pub AreShown : PendingIndex A → Type 0
  AreShown n = Shows (lookups_of n.plan) (row_at n) (indexed_atom n)
