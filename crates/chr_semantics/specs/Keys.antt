-- Keys: what an argument of a row must have at its root to be matched, by which an index finds rows (this project's own).
use Rattle.std.specs.Prelude.{◌≡◌, ℕ, zero, suc, ℤ, Bool, true, false, not, ◌&&◌, ◌||◌, ◌==◌, List, Option, Some, None, is_some, option_and_then, option_map, filter, find, slice_get, All}
use Rattle.std.specs.List.{list_all}
use Rattle.std.specs.Ordering.{int_eq}
use Rattle.chr_semantics.specs.Tree.{Tree, var, int, node, Trees, none, more}
use Rattle.chr_semantics.specs.Subst.{Subst}
use Rattle.chr_semantics.specs.Program.{Atom, Head, Occurrence, Program, Rule, occurrence}
use Rattle.chr_semantics.specs.Search.{History, atom_of, first, first_tuple, ids_of}
use Rattle.chr_semantics.specs.Match.{Row, match_at, fit_atom}
use Rattle.chr_semantics.specs.Join.{enters, own_joined_by, rows_in}

-- the argument at a position, from 0
abbrev pub arg_at : Trees → ℕ → Option Tree
arg_at none p = None
arg_at (more t ts) zero = Some t
arg_at (more t ts) (suc p) = arg_at ts p

-- the rows of a symbol
abbrev pub is_of : ℕ → Row → Bool
is_of f c = c.1.sym == f

-- The key of a term: a whole number, or the symbol at its root. A variable has none.
pub data Key : Type 0 where
  number : ℤ → Key
  name : ℕ → Key

abbrev pub key_of : Tree → Option Key
key_of (var x) = None
key_of (int z) = Some (number z)
key_of (node f ts) = Some (name f)

-- the key of the first argument, where there is one that has one
abbrev pub first_key : Atom → Option Key
first_key a = option_and_then key_of (arg_at a.args 0)

abbrev pub same_key : Key → Key → Bool
same_key (number z) (number w) = int_eq z w
same_key (number z) (name g) = false
same_key (name f) (number w) = false
same_key (name f) (name g) = f == g

-- both have that key, or neither has one
abbrev pub same_keys : Option Key → Option Key → Bool
same_keys None None = true
same_keys None (Some l) = false
same_keys (Some k) None = false
same_keys (Some k) (Some l) = same_key k l

-- the identities of the rows of a symbol, and of those with that key of their first argument
abbrev pub rows_of : List Row → ℕ → List ℕ
rows_of rows f = ids_of (filter (is_of f) rows)

abbrev pub rows_keyed : List Row → ℕ → Option Key → List ℕ
rows_keyed rows f k = ids_of (filter (λ c. is_of f c && same_keys k (first_key c.1)) rows)

-- the head is of another symbol, or its first argument has a key that the row's has not
abbrev pub clashes_with : Row → Head → Bool
clashes_with c h = not (is_of h.atom.sym c) || (is_some (first_key h.atom) && not (same_keys (first_key h.atom) (first_key c.1)))

-- a row clashes with a rule where it does with each of its heads
abbrev pub clashes : Rule → Row → Bool
clashes rule c = list_all (clashes_with c) rule.heads

-- a row that clashes with a rule fits none of its heads
abbrev pub ClashLaw : Type 0
ClashLaw = (rule : Rule) (c : Row) → clashes rule c ≡ true → All (λ h. (m : Subst) → fit_atom h.atom c.1 m ≡ None) rule.heads

-- The root of a term: its key, or the number of an unbound variable. An index of a search goes by roots, since a head's variable that is
-- matched to an unbound variable fits that very variable alone.
pub data Root : Type 0 where
  key : Key → Root
  unbound : ℕ → Root

abbrev pub root_of : Tree → Root
root_of (var x) = unbound x
root_of (int z) = key (number z)
root_of (node f ts) = key (name f)

abbrev pub same_root : Root → Root → Bool
same_root (key k) (key l) = same_key k l
same_root (key k) (unbound y) = false
same_root (unbound x) (key l) = false
same_root (unbound x) (unbound y) = x == y

abbrev pub is_root : Root → Option Root → Bool
is_root k None = false
is_root k (Some l) = same_root l k

-- the root that a pattern asks for under a match: none where it is a variable that is not matched yet
abbrev pub pattern_root : Subst → Tree → Option Root
pattern_root m (var x) = option_map root_of (match_at m x)
pattern_root m (int z) = Some (key (number z))
pattern_root m (node f ts) = Some (key (name f))

-- the root that a head asks for at a position
abbrev pub head_root : Subst → Head → ℕ → Option Root
head_root m h p = option_and_then (pattern_root m) (arg_at h.atom.args p)

-- the row's argument at the position has the root
abbrev pub has_root : ℕ → Root → Row → Bool
has_root p k c = is_root k (option_map root_of (arg_at c.1.args p))

-- a row that has another root at a position than the head asks for there does not fit, nor does a row of another symbol
pub record RootLaw : Type 0 where
  pub roots : (h : Head) (m : Subst) (p : ℕ) (k : Root) (c : Row) → head_root m h p ≡ Some k → has_root p k c ≡ false → fit_atom h.atom c.1 m ≡ None
  pub symbols : (h : Head) (m : Subst) (c : Row) → is_of h.atom.sym c ≡ false → fit_atom h.atom c.1 m ≡ None

-- the rows that have the root at the position, where the head asks for one there
abbrev pub keeps_at : Option Root → ℕ → Row → Bool
keeps_at None p c = true
keeps_at (Some k) p c = has_root p k c

-- the rows of the head's symbol by the root at the position that is picked
abbrev pub keeps_root : (Head → Subst → ℕ) → Head → Subst → Row → Bool
keeps_root pick h m c = is_of h.atom.sym c && keeps_at (head_root m h (pick h m)) (pick h m) c

-- The join may look for each head at the rows by the root at any one position, whichever it picks; and `first` is what a search for
-- tuples finds.
pub record LookLaw : Type 0 where
  pub by_root : (pick : Head → Subst → ℕ) (rows : List Row) (h : History) (r : ℕ) (rule : Rule) (place : ℕ) (own : Head) (a : Row) → slice_get rule.heads place ≡ Some own
      → first_tuple rows h r rule place a ≡ option_map rows_in (find (enters h r rule) (own_joined_by (keeps_root pick) rows rule place own a))
  pub first : (p : Program) (rows : List Row) (h : History) (i j : ℕ) (b : Atom) (o : Occurrence) → atom_of rows i ≡ Some b → occurrence p b.sym j ≡ Some o
      → first p rows h i j ≡ option_map ids_of (first_tuple rows h o.number o.rule o.place (i, b))
