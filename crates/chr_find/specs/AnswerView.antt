-- What a search of a snapshot answers.
use Rattle.std.specs.Prelude.{◌≡◌, ◌≤◌, ℕ, List, Option}

-- these identities, and tries within the bounds
pub record IsAnswer (wanted : Option (List ℕ)) (bounds : ℕ × ℕ) (ids : Option (List ℕ)) (tries : ℕ) : Type 0 where
  pub ids_are : ids ≡ wanted
  pub least : bounds.0 ≤ tries
  pub most : tries ≤ bounds.1
