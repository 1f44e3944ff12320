-- What the next step asks for.
use Rattle.std.specs.Prelude.{◌≡◌, ℕ, List, Option, Some, None}
use Rattle.chr_semantics.specs.Search.{first}
use Rattle.chr_semantics.specs.State.{Status, running, done, failed, faulted, rows}
use Rattle.chr_semantics.specs.Tasks.{Task, needed_task}
use Rattle.chr_find.specs.SnapshotView.{task_view}
use Rattle.chr_machine.specs.Model.{Model, state_in}
use Rattle.chr_machine.specs.declared.need.Need.{Need}
use Rattle.chr_machine.specs.declared.need.Need.TheVariants.{Search, Plain, Ended}

-- the search of a task, a step with no search, or no step
pub data Needed : Type 0 where
  search_of : Task → Needed
  plain : Needed
  ended : Needed

abbrev pub need_view : Need → Needed
need_view (Search t) = search_of (task_view t)
need_view Plain = plain
need_view Ended = ended

-- of a run that goes on
abbrev pub asked : Option Task → Needed
asked None = plain
asked (Some t) = search_of t

abbrev pub need_by : Option Task → Status → Needed
need_by t running = asked t
need_by t done = ended
need_by t failed = ended
need_by t (faulted f) = ended

-- what the state asks for
abbrev pub need : Model → Needed
need m = need_by (needed_task m.rules (state_in m)) m.status

-- the step asks for a search, and these are the identities of the first firing there
pub record Answers (m : Model) (ids : Option (List ℕ)) : Type 0 where
  pub task : Task
  pub needs : need m ≡ search_of task
  pub finds : (let s = state_in m in ids ≡ first m.rules (rows s) s.history task.0 task.1)
