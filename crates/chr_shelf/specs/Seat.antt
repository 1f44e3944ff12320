-- What a ticket and an answer show.
use Rattle.std.specs.Prelude.{ℕ, List, Option, map}
use Rattle.chr_semantics.specs.Tasks as tasks
use Rattle.chr_find.specs.SnapshotView.{task_view}
use Rattle.chr_find.specs.declared.snapshot.Snapshot.{Snapshot}
use Rattle.chr_shelf.specs.declared.answer.Answer.{Answer}
use Rattle.chr_shelf.specs.declared.run.RunName.{Ghosts}
use Rattle.chr_shelf.specs.declared.shelf.Ticket.{Ticket}

module _ {J A : Type 0} {G : Ghosts J} where
  -- the place of a ticket on the shelf, and what stands there
  abbrev pub place_of : Ticket J A G → ℕ
  place_of t = t.pushed.index

  abbrev pub shot_of : Ticket J A G → Snapshot A
  shot_of t = t.pushed.value

  -- the places and the snapshots of tickets
  abbrev pub places_in : List (Ticket J A G) → List ℕ
  places_in ts = map place_of ts

  abbrev pub shots_in : List (Ticket J A G) → List (Snapshot A)
  shots_in ts = map shot_of ts

  -- the ticket of the snapshot where the task of an answer stands, and the index of the task there
  abbrev pub ticket_of : Answer J A G → Ticket J A G
  ticket_of a = a.ticket

  abbrev pub index_of : Answer J A G → ℕ
  index_of a = a.index

  -- the task, and the identities that were found for it
  abbrev pub task_of : Answer J A G → tasks.Task
  task_of a = task_view a.task

  abbrev pub ids_of : Answer J A G → Option (List ℕ)
  ids_of a = a.found.ids
