-- What a search is for.
use Rattle.std.specs.Prelude.{◌≡◌, ℕ, List, Option, option_map}
use Rattle.chr_semantics.specs.Match.{Row}
use Rattle.chr_semantics.specs.Program.{Rule}
use Rattle.chr_semantics.specs.Search.{History, first_tuple, ids_of}

-- these are the identities of the first tuple that can fire, or there is none
abbrev pub IsFirst : List Row → History → ℕ → Rule → ℕ → Row → Option (List ℕ) → Type 0
IsFirst rows h r rule place a result = result ≡ option_map ids_of (first_tuple rows h r rule place a)
