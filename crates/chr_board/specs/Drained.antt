-- What a drain does to the list of its caller.
use Rattle.std.specs.Prelude.{◌≡◌, ◌++◌, ℕ, List, length}

-- it is the list, with this number of elements behind it
pub record HasMore {X : Type 0} (count : ℕ) (old new : List X) : Type 0 where
  pub more : List X
  pub so_many : length more ≡ count
  pub appended : new ≡ old ++ more
