-- What an answer says of the snapshot of its ticket.
use Rattle.std.specs.Prelude.{◌≡◌, ℕ, List, Option, None, Some, IsSome, slice_get}
use Rattle.chr_semantics.specs.Program.{Program}
use Rattle.chr_semantics.specs.Snapshot as semantics
use Rattle.chr_semantics.specs.Snapshot.{found_in}
use Rattle.chr_semantics.specs.Tasks.{Task}
use Rattle.chr_find.specs.SnapshotView.{IsSnapshot}
use Rattle.chr_find.specs.declared.snapshot.Snapshot.{Snapshot}
use Rattle.chr_shelf.specs.declared.solving.Unsolved.{Unsolved}
use Rattle.chr_shelf.specs.declared.solving.Unsolved.TheVariants.{NoTask, Memory}

-- the task stands there at the index, and these are the identities of its first firing there
pub record IsTrueOf (p : Program) (q : semantics.Snapshot) (index : ℕ) (t : Task) (ids : Option (List ℕ)) : Type 0 where
  pub task_is : slice_get q.tasks index ≡ Some t
  pub ids_are : ids ≡ found_in p q t

-- the same of a snapshot as it is kept
abbrev pub IsTrueIn : {A : Type 0} → Program → Snapshot A → ℕ → Task → Option (List ℕ) → Type 0
IsTrueIn p s index t ids = (q : semantics.Snapshot) → IsSnapshot s q → IsTrueOf p q index t ids

-- why a task was not solved: there is none with the index, or memory was refused for one that is there
abbrev pub IsUnsolved : Option Task → Unsolved → Type 0
IsUnsolved t NoTask = t ≡ None
IsUnsolved t Memory = IsSome t

abbrev pub IsUnsolvedIn : {A : Type 0} → Snapshot A → ℕ → Unsolved → Type 0
IsUnsolvedIn s index e = (q : semantics.Snapshot) → IsSnapshot s q → IsUnsolved (slice_get q.tasks index) e
