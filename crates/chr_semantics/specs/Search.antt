-- The search for a firing: tuples of partners in order, and the first of them that can fire (Duck et al. 2004, Simplify and Propagate).
use Rattle.std.specs.Prelude.{◌≡◌, ◌≢◌, ◌<◌, All, AllPairs, Contains, slice_get, ℕ, zero, suc, ◌+◌, Bool, true, false, cond, not, ◌&&◌, ◌==◌, List, [], ◌∷◌, map, Option, Some, None, find, flat_map, length, filter, nat_eq}
use Rattle.std.specs.Cmp.Lexicographic.{pointwise, slice_cmp}
use Rattle.std.specs.declared.cmp.Ordering.TheVariants.{Less}
use Rattle.std.specs.Ordering.{nat_cmp}
use Rattle.std.specs.List.Sorted.{IsStrictlyIncreasing}
use Rattle.std.specs.List.{list_any, list_all}
use Rattle.chr_semantics.specs.Subst.{Subst}
use Rattle.chr_semantics.specs.Program.{Atom, Rule, Program, Occurrence, occurrence}
use Rattle.chr_semantics.specs.Match.{Row, fit_atom, fits}
use Rattle.chr_semantics.specs.Guard.{all_entailed}

abbrev pub has_number : List ℕ → ℕ → Bool
has_number ids i = list_any (λ j. i == j) ids

-- the identities of rows
abbrev pub ids_of : List Row → List ℕ
ids_of rows = map (λ (row : Row). row.0) rows

-- the constraint of an identity, where it lives
abbrev pub atom_of : List Row → ℕ → Option Atom
atom_of [] i = None
atom_of (r ∷ rows) i = cond (r.0 == i) (Some r.1) (atom_of rows i)

-- the lists of rows with different identities, none of them used, for n heads from the k-th on, with the row a at the place
abbrev pub tuples_from : List Row → Row → ℕ → ℕ → List ℕ → ℕ → List (List Row)
tuples_from rows a place zero used k = [] ∷ []
tuples_from rows a place (suc n) used k =
    flat_map (λ (c : Row). elim (has_number used c.0) [ true ↦ [] | false ↦ map (λ others. c ∷ others) (tuples_from rows a place n (c.0 ∷ used) (k + 1)) ])
    (cond (k == place) (a ∷ []) rows)

-- all lists of rows with different identities, one for each head of the rule, with the row a at the place, in lexicographic order
abbrev pub tuples : List Row → Rule → ℕ → Row → List (List Row)
tuples rows rule place a = tuples_from rows a place (length rule.heads) [] 0

-- A list of rows for the heads of a rule: one for each head, with different identities, the row a at the place, and elsewhere rows of
-- the store.
pub record IsTuple (rows : List Row) (rule : Rule) (place : ℕ) (a : Row) (t : List Row) : Type 0 where
  pub one_each : length t ≡ length rule.heads
  pub different : AllPairs (λ i j. i ≢ j) (ids_of t)
  pub at_place : place < length rule.heads → slice_get t place ≡ Some a
  pub elsewhere : (k : ℕ) (c : Row) → k ≢ place → slice_get t k ≡ Some c → Contains rows c

-- The tuples are all these lists, and where the identities of the rows ascend, they are in lexicographic order of identities.
pub record TuplesLaw : Type 0 where
  pub are_tuples : (rows : List Row) (rule : Rule) (place : ℕ) (a : Row) → All (IsTuple rows rule place a) (tuples rows rule place a)
  pub all_tuples : (rows : List Row) (rule : Rule) (place : ℕ) (a : Row) (t : List Row) → IsTuple rows rule place a t → Contains (tuples rows rule place a) t
  pub in_order : (rows : List Row) (rule : Rule) (place : ℕ) (a : Row) → IsStrictlyIncreasing (ids_of rows) → AllPairs (λ t u. slice_cmp nat_cmp (ids_of t) (ids_of u) ≡ Less) (tuples rows rule place a)

-- The propagation history: the number of a rule, and the identities that it fired with, in head order.
abbrev pub History : Type 0
History = List (ℕ × List ℕ)

abbrev pub same_ids : List ℕ → List ℕ → Bool
same_ids = pointwise nat_eq

-- the rule r has fired with these identities
abbrev pub fired_before : History → ℕ → List ℕ → Bool
fired_before h r ids = list_any (λ (f : ℕ × List ℕ). f.0 == r && same_ids f.1 ids) h

-- the heads fit, and the guard is entailed
abbrev pub passes_guard : Rule → Option Subst → Bool
passes_guard rule None = false
passes_guard rule (Some m) = all_entailed m rule.guard

-- the rows can fire the rule r
abbrev pub can_fire : History → ℕ → Rule → List Row → Bool
can_fire h r rule t = passes_guard rule (fits rule.heads t) && not (fired_before h r (ids_of t))

-- the first tuple that can fire the rule r, with the row a at the place
abbrev pub first_tuple : List Row → History → ℕ → Rule → ℕ → Row → Option (List Row)
first_tuple rows h r rule place a = find (can_fire h r rule) (tuples rows rule place a)

-- what a search comes to; a firing has the rule's number, the rule, the place and the rows in head order
pub data Found : Type 0 where
  no_occurrence : Found
  no_firing : Found
  firing : ℕ → Rule → ℕ → List Row → Found

abbrev pub found_with : ℕ → Rule → ℕ → Option (List Row) → Found
found_with r rule place None = no_firing
found_with r rule place (Some t) = firing r rule place t

-- for the constraint i, where it lives
abbrev pub found_for : List Row → History → ℕ → Rule → ℕ → ℕ → Option Atom → Found
found_for rows h r rule place i None = no_firing
found_for rows h r rule place i (Some a) = found_with r rule place (first_tuple rows h r rule place (i, a))

abbrev pub found_at : List Row → History → ℕ → Option Occurrence → Found
found_at rows h i None = no_occurrence
found_at rows h i (Some o) = found_for rows h o.number o.rule o.place i (atom_of rows i)

-- the search for the constraint i, of the symbol f, at the j-th occurrence of f
abbrev pub search_for : Program → List Row → History → ℕ → ℕ → ℕ → Found
search_for p rows h f i j = found_at rows h i (occurrence p f j)

-- the identities of a firing
abbrev pub ids_found : Found → Option (List ℕ)
ids_found no_occurrence = None
ids_found no_firing = None
ids_found (firing r rule place t) = Some (ids_of t)

abbrev pub first_of : Program → List Row → History → ℕ → ℕ → Option Atom → Option (List ℕ)
first_of p rows h i j None = None
first_of p rows h i j (Some a) = ids_found (search_for p rows h a.sym i j)

-- The identities of the first firing of the constraint i at its occurrence j: the lexicographically least, by our choice. There is none
-- where i does not live or has no occurrence j.
abbrev pub first : Program → List Row → History → ℕ → ℕ → Option (List ℕ)
first p rows h i j = first_of p rows h i j (atom_of rows i)

-- rows that fit no head of an occurrence's rule change no search at it
abbrev pub RowsLaw : Type 0
RowsLaw =
    (p : Program) (rows : List Row) (keep : Row → Bool) (h : History) (i j : ℕ) (a : Atom) (o : Occurrence) → AllPairs (λ k l. k ≢ l) (ids_of rows) → atom_of rows i ≡ Some a → occurrence p a.sym j ≡ Some o
    → ((c : Row) → keep c ≡ false → All (λ head. (m : Subst) → fit_atom head.atom c.1 m ≡ None) o.rule.heads) → first p (filter keep rows) h i j ≡ first p rows h i j

-- the entries of a rule
abbrev pub rule_entries : ℕ → History → History
rule_entries r h = filter (λ (f : ℕ × List ℕ). f.0 == r) h

-- the entries of the history whose identities all have rows
abbrev pub live_entries : List Row → History → History
live_entries rows h = filter (λ (f : ℕ × List ℕ). list_all (has_number (ids_of rows)) f.1) h

-- the other entries change no search
abbrev pub DeadEntriesLaw : Type 0
DeadEntriesLaw = (p : Program) (rows : List Row) (h : History) (i j : ℕ) → first p rows (live_entries rows h) i j ≡ first p rows h i j

-- and neither do those of other rules
abbrev pub RuleEntriesLaw : Type 0
RuleEntriesLaw =
    (p : Program) (rows : List Row) (h : History) (i j f : ℕ) (o : Occurrence) → ((a : Atom) → atom_of rows i ≡ Some a → a.sym ≡ f) → occurrence p f j ≡ Some o
    → first p rows (rule_entries o.number h) i j ≡ first p rows h i j
