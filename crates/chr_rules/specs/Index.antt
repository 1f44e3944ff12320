-- Programs, with the occurrences of each symbol.
use Rattle.std.specs.Prelude.{◌≡◌, ◌<◌, ℕ, ◌+◌, List, [], ◌∷◌, length, map, Option, Some, None, slice_get, Vec}
use Rattle.chr_semantics.specs.Program as semantics
use Rattle.chr_semantics.specs.Program.{occurrences}
use Rattle.chr_rules.specs.declared.index.Occurrence.{Occurrence}

-- an occurrence as the numbers of its rule and its place
abbrev pub pair_view : Occurrence → ℕ × ℕ
pair_view o = (o.rule, o.place)

abbrev pub pairs_view : List Occurrence → List (ℕ × ℕ)
pairs_view os = map pair_view os

abbrev pub pair_of : semantics.Occurrence → ℕ × ℕ
pair_of o = (o.number, o.place)

abbrev pub pairs_of : List semantics.Occurrence → List (ℕ × ℕ)
pairs_of os = map pair_of os

-- the place is one of a head of the rule with this number
abbrev pub IsPlaceIn : semantics.Program → ℕ → ℕ → Type 0
IsPlaceIn p r place = (rule : semantics.Rule) → slice_get p r ≡ Some rule → place < length rule.heads

-- what an index has for a symbol: nothing past its end
abbrev pub pairs_in : {A : Type 0} → Option (Vec Occurrence A) → List (ℕ × ℕ)
pairs_in None = []
pairs_in (Some v) = pairs_view v.items

-- the index has for each symbol its occurrences in their order
abbrev pub AreListed : {A : Type 0} → List (Vec Occurrence A) → semantics.Program → Type 0
AreListed index p = (f : ℕ) → pairs_in (slice_get index f) ≡ pairs_of (occurrences p f)

-- the number of all heads of a program
abbrev pub head_count : semantics.Program → ℕ
head_count [] = 0
head_count (rule ∷ rules) = length rule.heads + head_count rules
