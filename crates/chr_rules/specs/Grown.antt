-- Names that grow.
use Rattle.std.specs.Prelude.{◌≡◌, ◌++◌}
use Rattle.chr_semantics.specs.Names.{Names}

-- the names with others after them
pub record Grows (old new : Names) : Type 0 where
  pub more : Names
  pub is : new ≡ old ++ more
