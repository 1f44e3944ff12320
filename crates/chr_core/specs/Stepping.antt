-- What a step of a core needs, and what it leaves.
use Rattle.std.specs.Prelude.{◌≡◌, ℕ, IfOk, OnErr, Result}
use Rattle.chr_shelf.specs.declared.run.RunName.{Ghosts}
use Rattle.chr_machine.specs.MachineView.{Steps}
use Rattle.chr_machine.specs.NeedView.{Needed, need}
use Rattle.chr_machine.specs.declared.stepped.Stepped.{Stepped}
use Rattle.chr_machine.specs.declared.stepped.Stepped.TheVariants.{Moved, Ended, Spent}
use Rattle.chr_core.specs.CoreView.{IsAsBefore, events_of, machine_in, places_of, query_of, stepped_events}
use Rattle.chr_core.specs.Rooms.{HasEventRoom}
use Rattle.chr_core.specs.declared.run_core.Core.{Core}

-- how many Steps of a schedule that is
abbrev pub steps_in : Stepped → ℕ
steps_in Moved = 1
steps_in Ended = 0
steps_in Spent = 0

module _ {J A : Type 0} {G : Ghosts J} where
  -- the next step asks for this, and there is room for its event
  pub record IsReadyFor (c : Core J A G) (needs : Needed) : Type 0 where
    pub room : HasEventRoom c
    pub needs_are : need (machine_in c) ≡ needs

  -- the machine made a step with this answer, and the schedule has its event; or all is as before
  pub record IsStep (old new : Core J A G) {E : Type 0} (answer : Result Stepped E) : Type 0 where
    pub machine : IfOk answer (λ stepped. Steps stepped (machine_in old) (machine_in new))
    pub events : IfOk answer (λ stepped. events_of new ≡ stepped_events stepped (events_of old))
    pub query : query_of new ≡ query_of old
    pub places : places_of new ≡ places_of old
    pub err : OnErr answer (IsAsBefore old new)
