-- The lines of a text.
use Rattle.std.specs.Prelude.{ℕ, ◌==◌, List, [], ◌∷◌, ◌++◌, cond, drop, length, take}

-- the lines with b before the first of them, where there is one
abbrev pub begun : ℕ → List (List ℕ) → List (List ℕ)
begun b [] = []
begun b (l ∷ ls) = (b ∷ l) ∷ ls

-- the lines of a text, each without the line feed that ends it
abbrev pub lines_in : List ℕ → List (List ℕ)
lines_in [] = []
lines_in (b ∷ bs) = cond (b == 10) ([] ∷ lines_in bs) (begun b (lines_in bs))

-- a buffer with a text at its beginning, or with as much of the text as it holds
abbrev pub written_over : List ℕ → List ℕ → List ℕ
written_over text buffer = take (length buffer) text ++ drop (length text) buffer
