-- What a `ByPlace` shows.
use Rattle.std.specs.Prelude.{ℕ, Bool, cond, Option, Some, None, nat_eq}
use Rattle.indexmap.specs.IndexMap.{get, spare}
use Rattle.chr_core.specs.declared.by_place.ByPlace.{ByPlace}

module _ {A : Type 0} where
  abbrev pub number_at : ByPlace A → ℕ → Option ℕ
  number_at b y = get nat_eq b.numbers y

  abbrev pub room_in : ByPlace A → ℕ
  room_in b = spare b.numbers

-- the number that is there, or else the new one, where the place is its own
abbrev pub or_number : Option ℕ → Bool → ℕ → Option ℕ
or_number (Some n) its m = Some n
or_number None its m = cond its (Some m) None
