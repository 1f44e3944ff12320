-- The texts of a set of strings.
use Rattle.std.specs.Prelude.{ℕ, cond, List, [], ◌∷◌, ◌++◌, map, bytes_eq, string_bytes}
use Rattle.std.specs.List.{list_any}
use Rattle.std.specs.declared.string.String.{String}

abbrev pub texts_of : {Z : Type 0} → List (String Z) → List (List ℕ)
texts_of = map string_bytes

-- the texts with one more at their end, if it is not among them
abbrev pub with_text : List (List ℕ) → List ℕ → List (List ℕ)
with_text texts text = cond (list_any (bytes_eq text) texts) texts (texts ++ text ∷ [])
