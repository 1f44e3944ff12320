-- How many lists the join tries (this project's own).
use Rattle.std.specs.Prelude.{◌≡◌, ◌≤◌, ◌*◌, ◌+◌, ℕ, Bool, cond, ◌==◌, List, [], ◌∷◌, Option, None, Some, is_some, filter, length, min, slice_get}
use Rattle.chr_semantics.specs.Program.{Atom, Head, Occurrence, Program, Rule, occurrence}
use Rattle.chr_semantics.specs.Match.{Row, fits}
use Rattle.chr_semantics.specs.Search.{History, atom_of, can_fire, tuples}
use Rattle.chr_semantics.specs.Keys.{is_of}
use Rattle.chr_semantics.specs.Join.{enters, own_joined}

-- how many are looked at, up to and with the first that passes
abbrev pub tried : {X : Type 0} → (X → Bool) → List X → ℕ
tried p [] = 0
tried p (x ∷ xs) = cond (p x) 1 (tried p xs + 1)

-- the rows fit the heads
abbrev pub fits_some : Rule → List Row → Bool
fits_some rule t = is_some (fits rule.heads t)

-- the number of rows of a symbol
abbrev pub count_of : List Row → ℕ → ℕ
count_of rows f = length (filter (is_of f) rows)

-- the product of the numbers of rows over the heads from the k-th on, but for the head at the place
abbrev pub product_from : List Row → ℕ → ℕ → List Head → ℕ
product_from rows place k [] = 1
product_from rows place k (h ∷ hs) = cond (k == place) 1 (count_of rows h.atom.sym) * product_from rows place (k + 1) hs

-- the tuples whose rows fit, up to and with the first that can fire
abbrev pub tried_tuples : List Row → History → ℕ → Rule → ℕ → Row → ℕ
tried_tuples rows h r rule place a = tried (can_fire h r rule) (filter (fits_some rule) (tuples rows rule place a))

-- the join tries exactly those, and at most the product of the numbers of rows of the partners' symbols
pub record TriesLaw : Type 0 where
  pub tries : (rows : List Row) (h : History) (r : ℕ) (rule : Rule) (place : ℕ) (own : Head) (a : Row) → slice_get rule.heads place ≡ Some own
      → tried (enters h r rule) (own_joined rows rule place own a) ≡ tried_tuples rows h r rule place a
  pub most : (rows : List Row) (h : History) (r : ℕ) (rule : Rule) (place : ℕ) (own : Head) (a : Row) → slice_get rule.heads place ≡ Some own
      → tried_tuples rows h r rule place a ≤ product_from rows place 0 rule.heads

-- at most the greatest number of 64 bits, where a count stays
abbrev pub capped : ℕ → ℕ
capped n = min n 18446744073709551615

-- the least and the most tries of a search over these rows: none where the constraint is not there or has no such occurrence
abbrev pub bounds_for : List Row → History → ℕ → Atom → Option Occurrence → ℕ × ℕ
bounds_for rows h i a None = (0, 0)
bounds_for rows h i a (Some o) = (capped (tried_tuples rows h o.number o.rule o.place (i, a)), capped (product_from rows o.place 0 o.rule.heads))

abbrev pub bounds_of : Program → List Row → History → ℕ → ℕ → Option Atom → ℕ × ℕ
bounds_of p rows h i j None = (0, 0)
bounds_of p rows h i j (Some a) = bounds_for rows h i a (occurrence p a.sym j)

abbrev pub tries_bounds : Program → List Row → History → ℕ → ℕ → ℕ × ℕ
tries_bounds p rows h i j = bounds_of p rows h i j (atom_of rows i)
