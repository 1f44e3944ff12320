-- What goes out to a writer.
use Rattle.std.specs.Prelude.{◌≡◌, ◌<◌, ℕ, List, ◌++◌, Option, length}
use Rattle.std.specs.Io.KnownBytes.{Appends}

-- the known bytes grow by what stands before the rest
pub record IsOut (old new : Option (List ℕ)) (bytes rest : List ℕ) : Type 0 where
  pub out : List ℕ
  pub whole : bytes ≡ out ++ rest
  pub appends : Appends old new out

-- the known bytes grow by a first part of these
pub record AppendsPart (old new : Option (List ℕ)) (bytes : List ℕ) : Type 0 where
  pub rest : List ℕ
  pub is_out : IsOut old new bytes rest

-- the same, and something is left
pub record AppendsLess (old new : Option (List ℕ)) (bytes : List ℕ) : Type 0 where
  pub rest : List ℕ
  pub is_out : IsOut old new bytes rest
  pub left : 0 < length rest
