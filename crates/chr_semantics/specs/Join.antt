-- The search with the head of the active constraint first, and the other heads in their order (this project's own).
use Rattle.std.specs.Prelude.{◌≡◌, ℕ, ◌+◌, Bool, true, false, cond, not, ◌&&◌, ◌==◌, List, [], ◌∷◌, map, Option, Some, None, option_map, option_and_then, find, filter, flat_map, slice_get}
use Rattle.chr_semantics.specs.Tree.{Tree}
use Rattle.chr_semantics.specs.Subst.{Subst, apply, value_at}
use Rattle.chr_semantics.specs.Program.{Head, Rule, Test}
use Rattle.chr_semantics.specs.Match.{Row, match_at, fit_atom, fits}
use Rattle.chr_semantics.specs.Guard.{all_entailed}
use Rattle.chr_semantics.specs.Search.{History, has_number, ids_of, fired_before, first_tuple}

-- both match each variable to the same term, or neither matches it
abbrev pub SameLookups : Subst → Subst → Type 0
SameLookups m n = (x : ℕ) → match_at m x ≡ match_at n x

-- there is no match, or both have the same look-ups
abbrev pub SameMatch : Option Subst → Option Subst → Type 0
SameMatch None None = Unit {0}
SameMatch None (Some n) = ⊥
SameMatch (Some m) None = ⊥
SameMatch (Some m) (Some n) = SameLookups m n

-- the heads from the k-th on against the rows, but for the head at the place
abbrev pub fit_others : ℕ → ℕ → List Head → List Row → Subst → Option Subst
fit_others place k [] [] m = Some m
fit_others place k [] (c ∷ t) m = None
fit_others place k (h ∷ hs) [] m = None
fit_others place k (h ∷ hs) (c ∷ t) m = cond (k == place) (fit_others place (k + 1) hs t m) (option_and_then (fit_others place (k + 1) hs t) (fit_atom h.atom c.1 m))

-- the own head against the row a first, and then the others in their order
abbrev pub fit_own_first : ℕ → List Head → Head → Row → List Row → Option Subst
fit_own_first place heads own a t = option_and_then (fit_others place 0 heads t) (fit_atom own.atom a.1 [])

-- Matching with the own head first is matching in head order, at the level of look-ups; and guards and bodies see look-ups alone.
pub record OrderLaw : Type 0 where
  pub same : (heads : List Head) (t : List Row) (place : ℕ) (own : Head) (a : Row) → slice_get heads place ≡ Some own → slice_get t place ≡ Some a → SameMatch (fits heads t) (fit_own_first place heads own a t)
  pub guards : (m n : Subst) → SameLookups m n → (g : List Test) → all_entailed m g ≡ all_entailed n g
  pub terms : (m n : Subst) → SameLookups m n → (t : Tree) → apply m t ≡ apply n t
  pub values : (m n : Subst) → SameLookups m n → (x : ℕ) → value_at m x ≡ value_at n x

-- rows for heads, and their match
abbrev pub Joined : Type 0
Joined = List Row × Subst

-- with the row c in front
abbrev pub after_row : Row → Joined → Joined
after_row c p = (c ∷ p.0, p.1)

-- what lies after the row c: nothing where it was used or does not fit
abbrev pub branch : (Subst → List Joined) → Row → Bool → Option Subst → List Joined
branch further c true e = []
branch further c false None = []
branch further c false (Some m) = map (after_row c) (further m)

-- The lists of different rows for the heads from the k-th on that fit, with their match, in the order of the rows. The row a stands at
-- the place, where it was matched first. For each other head and the match so far only the rows that a test keeps are looked at.
abbrev pub joined_by : (Head → Subst → Row → Bool) → List Row → Row → ℕ → List Head → List ℕ → ℕ → Subst → List Joined
joined_by keep rows a place [] used k m = ([], m) ∷ []
joined_by keep rows a place (h ∷ hs) used k m =
    cond (k == place) (map (after_row a) (joined_by keep rows a place hs (a.0 ∷ used) (k + 1) m))
    (flat_map (λ (c : Row). branch (λ n. joined_by keep rows a place hs (c.0 ∷ used) (k + 1) n) c (has_number (a.0 ∷ used) c.0) (fit_atom h.atom c.1 m)) (filter (keep h m) rows))

-- the same over all rows
abbrev pub joined : List Row → Row → ℕ → List Head → List ℕ → ℕ → Subst → List Joined
joined rows a place [] used k m = ([], m) ∷ []
joined rows a place (h ∷ hs) used k m =
    cond (k == place) (map (after_row a) (joined rows a place hs (a.0 ∷ used) (k + 1) m))
    (flat_map (λ (c : Row). branch (λ n. joined rows a place hs (c.0 ∷ used) (k + 1) n) c (has_number (a.0 ∷ used) c.0) (fit_atom h.atom c.1 m)) rows)

-- nothing where the own head does not fit
abbrev pub after_own : (Subst → List Joined) → Option Subst → List Joined
after_own further None = []
after_own further (Some m) = further m

-- the whole join, after the match of the own head
abbrev pub own_joined : List Row → Rule → ℕ → Head → Row → List Joined
own_joined rows rule place own a = after_own (joined rows a place rule.heads [] 0) (fit_atom own.atom a.1 [])

abbrev pub own_joined_by : (Head → Subst → Row → Bool) → List Row → Rule → ℕ → Head → Row → List Joined
own_joined_by keep rows rule place own a = after_own (joined_by keep rows a place rule.heads [] 0) (fit_atom own.atom a.1 [])

-- the guard is entailed, and the rule has not fired with these identities
abbrev pub enters : History → ℕ → Rule → Joined → Bool
enters h r rule p = all_entailed p.1 rule.guard && not (fired_before h r (ids_of p.0))

-- without the match
abbrev pub rows_in : Joined → List Row
rows_in p = p.0

-- a test that keeps each row which fits
abbrev pub Keeps : (Head → Subst → Row → Bool) → Type 0
Keeps keep = (h : Head) (m : Subst) (c : Row) → keep h m c ≡ false → fit_atom h.atom c.1 m ≡ None

-- the first tuple that can fire is the first of the join that enters, whatever rows are left out that do not fit
pub record JoinLaw : Type 0 where
  pub all_rows : (rows : List Row) (h : History) (r : ℕ) (rule : Rule) (place : ℕ) (own : Head) (a : Row) → slice_get rule.heads place ≡ Some own
      → first_tuple rows h r rule place a ≡ option_map rows_in (find (enters h r rule) (own_joined rows rule place own a))
  pub kept_rows : (keep : Head → Subst → Row → Bool) (rows : List Row) (h : History) (r : ℕ) (rule : Rule) (place : ℕ) (own : Head) (a : Row) → Keeps keep → slice_get rule.heads place ≡ Some own
      → first_tuple rows h r rule place a ≡ option_map rows_in (find (enters h r rule) (own_joined_by keep rows rule place own a))
