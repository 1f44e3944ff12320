-- What a core shows.
use Rattle.std.specs.Prelude.{◌≡◌, ◌++◌, ◌∷◌, [], ℕ, List, None}
use Rattle.chr_semantics.specs.Names.{Names}
use Rattle.chr_semantics.specs.Program as semantics
use Rattle.chr_semantics.specs.Program.{Program}
use Rattle.chr_semantics.specs.Schedule as schedule
use Rattle.chr_semantics.specs.Schedule.{Event, Progress, arrive, move, progress, refusal}
use Rattle.chr_semantics.specs.State.{State, start}
use Rattle.chr_rules.specs.RuleView.{query_view}
use Rattle.chr_schedule.specs.EventView.{events_view}
use Rattle.chr_laws.specs.Stands as stands
use Rattle.chr_shelf.specs.Seat.{places_in}
use Rattle.chr_shelf.specs.declared.run.RunName.{Ghosts}
use Rattle.chr_machine.specs.MachineView.{machine_view}
use Rattle.chr_machine.specs.Model.{Model}
use Rattle.chr_machine.specs.declared.stepped.Stepped.{Stepped}
use Rattle.chr_machine.specs.declared.stepped.Stepped.TheVariants.{Moved, Ended, Spent}
use Rattle.chr_core.specs.RoundView.{parts}
use Rattle.chr_core.specs.declared.arriving.Took.{Took}
use Rattle.chr_core.specs.declared.arriving.Took.TheVariants.{Kept, Late, Double, Stranger}
use Rattle.chr_core.specs.declared.run_core.Core.{Core}
use Rattle.chr_core.specs.declared.run_core.Counts.{Counts}

module _ {J A : Type 0} {G : Ghosts J} where
  -- the schedule that it stands at
  abbrev pub events_of : Core J A G → List Event
  events_of c = events_view c.events.items

  -- its query, and the start of that
  abbrev pub query_of : Core J A G → semantics.Query
  query_of c = query_view c.query

  abbrev pub start_of : Core J A G → State
  start_of c = start (query_of c)

  abbrev pub progress_of : Core J A G → Progress
  progress_of c = progress G.rules (start_of c) (events_of c)

  -- the places of the snapshots of its rounds
  abbrev pub places_of : Core J A G → List ℕ
  places_of c = places_in c.tickets.items

  -- its machine, and the names of its program
  abbrev pub machine_in : Core J A G → Model
  machine_in c = machine_view c.machine

  abbrev pub names_in : Core J A G → Names
  names_in c = (machine_in c).names

  -- what the laws see of it
  abbrev pub core_in : Core J A G → stands.Core
  core_in c = parts c.machine c.rounds.items c.answers c.late c.double c.used c.own

  -- it serves the same query, with the same machine
  pub record IsSameRun (old new : Core J A G) : Type 0 where
    pub query_is : query_of new ≡ query_of old
    pub machine_is : machine_in new ≡ machine_in old

  -- all is as before
  pub record IsAsBefore (old new : Core J A G) : Type 0 where
    pub events_are : events_of new ≡ events_of old
    pub places_are : places_of new ≡ places_of old
    pub run : IsSameRun old new

-- what became of an answer, and the schedule after it came
abbrev pub took_view : Took → schedule.Took
took_view (Kept i) = schedule.kept i
took_view (Late i) = schedule.late i
took_view (Double i) = schedule.double i
took_view Stranger = schedule.stranger

abbrev pub arrived : Took → ℕ → List Event → List Event
arrived (Kept i) x es = es ++ arrive i x ∷ []
arrived (Late i) x es = es ++ arrive i x ∷ []
arrived (Double i) x es = es ++ arrive i x ∷ []
arrived Stranger x es = es

-- an arrival in that round is not refused, wherever it stands in the schedule
abbrev pub IsThere : Program → State → Progress → ℕ → ℕ → Type 0
IsThere p q g i x = (k : ℕ) → refusal p q g k (arrive i x) ≡ None

-- nor is the one that was noted
abbrev pub AllowsArrival : Program → State → Progress → ℕ → Took → Type 0
AllowsArrival p q g x (Kept i) = IsThere p q g i x
AllowsArrival p q g x (Late i) = IsThere p q g i x
AllowsArrival p q g x (Double i) = IsThere p q g i x
AllowsArrival p q g x Stranger = Unit {0}

abbrev pub counts_view : Counts → schedule.Counts
counts_view c = record { kept = c.kept; late = c.late; double = c.double; used = c.used; own = c.own }

-- the schedule after a step: Ended and Spent are no events
abbrev pub stepped_events : Stepped → List Event → List Event
stepped_events Moved es = es ++ move ∷ []
stepped_events Ended es = es
stepped_events Spent es = es
