-- Where a search may go on after a list that it found (this project's own).
use Rattle.std.specs.Prelude.{◌≡◌, ℕ, Bool, true, false, not, ◌&&◌, ◌||◌, ◌==◌, nat_lt, List, [], ◌∷◌, Some, option_map, Contains, filter, find, slice_get}
use Rattle.std.specs.List.{list_any}
use Rattle.std.specs.List.Sorted.{IsStrictlyIncreasing}
use Rattle.chr_semantics.specs.Program.{Head, Rule}
use Rattle.chr_semantics.specs.Match.{Row}
use Rattle.chr_semantics.specs.Search.{History, ids_of, fired_before, can_fire, first_tuple, tuples}
use Rattle.chr_semantics.specs.Tries.{tried, fits_some}
use Rattle.chr_semantics.specs.Join.{Joined, enters, own_joined, rows_in}

-- before the other list in lexicographic order
abbrev pub lex_lt : List ℕ → List ℕ → Bool
lex_lt [] [] = false
lex_lt [] (y ∷ ys) = true
lex_lt (x ∷ xs) [] = false
lex_lt (x ∷ xs) (y ∷ ys) = nat_lt x y || (x == y && lex_lt xs ys)

-- an identity that is not below `from`
abbrev pub is_new : ℕ → ℕ → Bool
is_new from c = not (nat_lt c from)

-- the identities lie after the list l, or one of them is `from` or greater
abbrev pub lies_ahead : List ℕ → ℕ → List ℕ → Bool
lies_ahead l from ids = lex_lt l ids || list_any (is_new from) ids

-- what a cursor says of a state alone: each tuple that can fire lies ahead
abbrev pub IsSpent : List Row → History → ℕ → Rule → ℕ → Row → List ℕ → ℕ → Type 0
IsSpent rows h r rule place a l from = (t : List Row) → Contains (tuples rows rule place a) t → can_fire h r rule t ≡ true → lies_ahead l from (ids_of t) ≡ true

-- what fired stays fired
abbrev pub IsGrown : History → History → ℕ → Type 0
IsGrown h k r = (ids : List ℕ) → fired_before h r ids ≡ true → fired_before k r ids ≡ true

-- A cursor is set by a firing that was then entered, kept while rows below `from` are only removed and the history only grows, and gives
-- the next firing.
pub record CursorLaw : Type 0 where
  pub set : (rows : List Row) (h k : History) (r : ℕ) (rule : Rule) (place : ℕ) (a : Row) (l : List ℕ) (from : ℕ) → IsStrictlyIncreasing (ids_of rows) → option_map ids_of (first_tuple rows h r rule place a) ≡ Some l
      → fired_before k r l ≡ true → IsGrown h k r → IsSpent rows k r rule place a l from
  pub kept : (rows others : List Row) (h k : History) (r : ℕ) (rule : Rule) (place : ℕ) (a : Row) (l : List ℕ) (from : ℕ) → IsSpent rows h r rule place a l from → IsGrown h k r
      → ((c : Row) → Contains others c → is_new from c.0 ≡ false → Contains rows c) → IsSpent others k r rule place a l from
  pub next : (rows : List Row) (h : History) (r : ℕ) (rule : Rule) (place : ℕ) (a : Row) (l : List ℕ) (from : ℕ) → IsSpent rows h r rule place a l from
      → first_tuple rows h r rule place a ≡ find (λ t. lies_ahead l from (ids_of t) && can_fire h r rule t) (tuples rows rule place a)

-- the identities of the rows pass a test
abbrev pub admitted : (List ℕ → Bool) → Joined → Bool
admitted test p = test (ids_of p.0)

-- the same among the tuples whose identities pass a test
pub record GatedLaw : Type 0 where
  pub found : (test : List ℕ → Bool) (rows : List Row) (h : History) (r : ℕ) (rule : Rule) (place : ℕ) (own : Head) (a : Row) → slice_get rule.heads place ≡ Some own
      → find (λ t. test (ids_of t) && can_fire h r rule t) (tuples rows rule place a) ≡ option_map rows_in (find (enters h r rule) (filter (admitted test) (own_joined rows rule place own a)))
  pub tries : (test : List ℕ → Bool) (rows : List Row) (h : History) (r : ℕ) (rule : Rule) (place : ℕ) (own : Head) (a : Row) → slice_get rule.heads place ≡ Some own
      → tried (enters h r rule) (filter (admitted test) (own_joined rows rule place own a)) ≡ tried (can_fire h r rule) (filter (λ t. test (ids_of t) && fits_some rule t) (tuples rows rule place a))
