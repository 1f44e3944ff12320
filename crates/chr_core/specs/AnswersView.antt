-- What the kept answers show.
use Rattle.std.specs.Prelude.{◌<◌, ℕ, List, Option, map, vec_capacity, vec_len}
use Rattle.chr_semantics.specs.Tasks.{Task}
use Rattle.chr_laws.specs.Kept.{Answered}
use Rattle.chr_core.specs.SpotsView.{guests_at, row_at, spare_at}
use Rattle.chr_core.specs.KeptView.{kept_view}
use Rattle.chr_core.specs.declared.answers.Answers.{Answers}

module _ {A : Type 0} where
  abbrev pub answers_in : Answers A → List Answered
  answers_in a = map kept_view a.kept.items

  abbrev pub row_in : Answers A → Task → Option ℕ
  row_in a = row_at a.spots

  abbrev pub guests_in : Answers A → Task → List ℕ
  guests_in a = guests_at a.spots

  -- for one more answer to a task
  pub record HasRoom (a : Answers A) (t : Task) : Type 0 where
    pub kept : vec_len a.kept < vec_capacity a.kept
    pub spots : 0 < spare_at a.spots t
