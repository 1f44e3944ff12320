-- A text that was written on.
use Rattle.std.specs.Prelude.{◌≡◌, ℕ, List, ◌++◌}

-- the new text begins with the old one
pub record IsExtension (old new : List ℕ) : Type 0 where
  pub more : List ℕ
  pub whole : new ≡ old ++ more
