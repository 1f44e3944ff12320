-- What a `Spots` shows.
use Rattle.std.specs.Prelude.{ℕ, Bool, List, [], Option, Some, None}
use Rattle.indexmap.specs.IndexMap.{IndexMap, get}
use Rattle.chr_semantics.specs.Tasks.{Task}
use Rattle.chr_core.specs.PositionsValue.{PositionsValue}
use Rattle.chr_core.specs.declared.spots.TaskKey.{TaskKey}
use Rattle.chr_core.specs.declared.spots.Spots.{Spots}
use Rattle.chr_core.specs.contracts.spots.TaskKeyPartialEq.TheImpl.{ghosts}

abbrev pub same_key : TaskKey → TaskKey → Bool
same_key = ghosts.eq

abbrev pub task_of : TaskKey → Task
task_of k = (k.goal, k.occurrence)

abbrev pub key_of : Task → TaskKey
key_of t = record { goal = t.0; occurrence = t.1 }

abbrev pub row_or_none : Option PositionsValue → Option ℕ
row_or_none None = None
row_or_none (Some v) = v.row

abbrev pub guests_or_none : Option PositionsValue → List ℕ
guests_or_none None = []
guests_or_none (Some v) = v.guests

abbrev pub spare_or_zero : Option PositionsValue → ℕ
spare_or_zero None = 0
spare_or_zero (Some v) = v.spare

-- of a map of positions by task
module _ {S : Type 0} where
  abbrev pub row_under : IndexMap TaskKey PositionsValue S → TaskKey → Option ℕ
  row_under positions k = row_or_none (get same_key positions k)

  abbrev pub guests_under : IndexMap TaskKey PositionsValue S → TaskKey → List ℕ
  guests_under positions k = guests_or_none (get same_key positions k)

  abbrev pub spare_under : IndexMap TaskKey PositionsValue S → TaskKey → ℕ
  spare_under positions k = spare_or_zero (get same_key positions k)

-- of the positions of answers
module _ {A : Type 0} where
  abbrev pub row_at : Spots A → Task → Option ℕ
  row_at s t = row_under s.positions (key_of t)

  abbrev pub guests_at : Spots A → Task → List ℕ
  guests_at s t = guests_under s.positions (key_of t)

  abbrev pub spare_at : Spots A → Task → ℕ
  spare_at s t = spare_under s.positions (key_of t)
