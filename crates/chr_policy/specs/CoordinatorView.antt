-- What a coordinator shows.
use Rattle.std.specs.Prelude.{◌≡◌, ◌≤◌, ℕ, List, length, true}
use Rattle.chr_semantics.specs.Names.{Names}
use Rattle.chr_semantics.specs.Program.{Query}
use Rattle.chr_semantics.specs.Schedule.{Event, Progress, counts, progress}
use Rattle.chr_semantics.specs.State.{State, start}
use Rattle.chr_semantics.specs.declared.limits.TheConstants.{MAX_ROUNDS}
use Rattle.chr_schedule.specs.EventView.{events_view}
use Rattle.chr_shelf.specs.declared.run.RunName.{Ghosts}
use Rattle.chr_machine.specs.Model.{Model}
use Rattle.chr_core.specs.CoreView.{counts_view, events_of, machine_in, names_in, progress_of, query_of, start_of}
use Rattle.chr_core.specs.Outcomes.{IsOutcomeOf}
use Rattle.chr_policy.specs.Standing.{Rests}
use Rattle.chr_policy.specs.declared.coordinator.Coordinator.{Coordinator}
use Rattle.chr_policy.specs.declared.coordinator.Made.{Made}

module _ {J A : Type 0} {G : Ghosts J} where
  -- the events of the run so far, its query, the names of its program, and its machine
  abbrev pub events_by : Coordinator J A G → List Event
  events_by c = events_of c.core

  abbrev pub query_by : Coordinator J A G → Query
  query_by c = query_of c.core

  abbrev pub names_by : Coordinator J A G → Names
  names_by c = names_in c.core

  abbrev pub machine_by : Coordinator J A G → Model
  machine_by c = machine_in c.core

  -- how many workers it has, and how many calls for a round were refused
  abbrev pub workers_by : Coordinator J A G → ℕ
  workers_by c = c.workers

  abbrev pub skipped_by : Coordinator J A G → ℕ
  skipped_by c = c.skipped

  -- where it looks for no place any more, as many rounds as there can be stood at this progress
  abbrev pub IsFullAt : Progress → Coordinator J A G → Type 0
  IsFullAt at c = c.is_full ≡ true → MAX_ROUNDS ≤ length at.rounds

  -- it stands right after a Step or at the start, and has kept to the policy
  pub record IsAtRest (c : Coordinator J A G) : Type 0 where
    pub rests : Rests G.rules (start (query_by c)) (workers_by c) (skipped_by c) (events_by c)
    pub few : skipped_by c ≤ (machine_by c).steps
    pub full : IsFullAt (progress_of c.core) c

  -- the same machine, query and workers
  pub record IsSame (old new : Coordinator J A G) : Type 0 where
    pub machine_is : machine_by new ≡ machine_by old
    pub query_is : query_by new ≡ query_by old
    pub workers_are : workers_by new ≡ workers_by old

  -- what a run has come to
  pub record IsMade {B : Type 0} (c : Coordinator J A G) (m : Made B) : Type 0 where
    pub outcome : IsOutcomeOf (names_by c) G.rules (query_by c) (progress G.rules (start (query_by c)) (events_by c)).steps m.outcome
    pub schedule_is : events_view m.schedule.items ≡ events_by c
    pub counts_are : counts_view m.counts ≡ counts G.rules (start (query_by c)) (events_by c)
    pub skipped_are : m.skipped ≡ skipped_by c
