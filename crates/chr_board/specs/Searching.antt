-- The searches of a round: which may begin, and which are worth while.
use Rattle.std.specs.Prelude.{ℕ, Bool, true, false, not, cond, ◌&&◌, ◌==◌, List, Option, Some, None, filter, length, option_map, slice_get}
use Rattle.std.specs.List.{list_any}
use Rattle.chr_semantics.specs.Tasks.{same_task}
use Rattle.chr_find.specs.SnapshotView.{task_view}
use Rattle.chr_find.specs.declared.snapshot.Task.{Task}
use Rattle.chr_board.specs.declared.searches.RoundTask.{RoundTask}
use Rattle.chr_board.specs.declared.searches.Searches.{Searches}

abbrev pub is_task : Task → Task → Bool
is_task t other = same_task (task_view other) (task_view t)

-- whether the search for a task is among these
abbrev pub has_begun : List Task → Task → Bool
has_begun begun t = list_any (is_task t) begun

-- these but that of a task
abbrev pub without_search : List Task → Task → List Task
without_search begun t = filter (λ other. not (is_task t other)) begun

-- whether it is that task
abbrev pub is_own : Option Task → Task → Bool
is_own None t = false
is_own (Some other) t = is_task t other

abbrev pub is_place : Option ℕ → ℕ → Bool
is_place None place = false
is_place (Some other) place = other == place

module _ {A : Type 0} where
  -- the search for a task may begin: nobody makes it
  abbrev pub is_free : Searches A → Task → Bool
  is_free s t = not (is_own s.own t) && not (has_begun s.begun.items t)

  -- it is worth while
  abbrev pub is_open : Searches A → RoundTask → Bool
  is_open s r = not r.is_good && is_free s r.task

  -- of a task that was not named nothing is known
  abbrev pub is_open_named : Searches A → Option RoundTask → Bool
  is_open_named s None = true
  is_open_named s (Some r) = is_open s r

  -- a search for the task at an index of the round at a place is worth while
  abbrev pub is_fresh : Searches A → ℕ → ℕ → Bool
  is_fresh s place index = is_place s.place place && is_open_named s (slice_get s.tasks.items index)

  abbrev pub fresh_tasks : Searches A → ℕ
  fresh_tasks s = length (filter (is_open s) s.tasks.items)

  abbrev pub task_at : Searches A → ℕ → Option Task
  task_at s index = option_map (λ r. r.task) (slice_get s.tasks.items index)
