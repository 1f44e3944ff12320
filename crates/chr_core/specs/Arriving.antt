-- An answer that comes to a round.
use Rattle.std.specs.Prelude.{◌≡◌, ◌++◌, ◌∷◌, [], ℕ}
use Rattle.chr_semantics.specs.Schedule.{arrive}
use Rattle.chr_laws.specs.Kept.{Answered}
use Rattle.chr_shelf.specs.Seat.{ids_of, index_of, task_of}
use Rattle.chr_shelf.specs.declared.answer.Answer.{Answer}
use Rattle.chr_shelf.specs.declared.run.RunName.{Ghosts}
use Rattle.chr_core.specs.CoreView.{IsSameRun, events_of, places_of}
use Rattle.chr_core.specs.declared.run_core.Core.{Core}

module _ {J A : Type 0} {G : Ghosts J} where
  abbrev pub answered : ℕ → Answer J A G → Answered
  answered round a = record { round = round; index = index_of a; task = task_of a; ids = ids_of a }

  -- the schedule has the arrival of an answer to a task of a round, and the run and the places of its rounds are as before
  pub record HasArrived (old new : Core J A G) (round index : ℕ) : Type 0 where
    pub events_are : events_of new ≡ events_of old ++ arrive round index ∷ []
    pub places_are : places_of new ≡ places_of old
    pub run : IsSameRun old new
