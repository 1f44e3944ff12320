-- Room that was made.
use Rattle.std.specs.Prelude.{◌<◌, vec_capacity, vec_len}
use Rattle.chr_shelf.specs.declared.run.RunName.{Ghosts}
use Rattle.chr_core.specs.PlaceView.{room_in}
use Rattle.chr_core.specs.declared.run_core.Core.{Core}

module _ {J A : Type 0} {G : Ghosts J} where
  -- for one more event
  abbrev pub HasEventRoom : Core J A G → Type 0
  HasEventRoom c = vec_len c.events < vec_capacity c.events

  -- for one more round and its event
  pub record HasRoundRoom (c : Core J A G) : Type 0 where
    pub events : HasEventRoom c
    pub rounds : vec_len c.rounds < vec_capacity c.rounds
    pub tickets : vec_len c.tickets < vec_capacity c.tickets
    pub places : 0 < room_in c.by_place
