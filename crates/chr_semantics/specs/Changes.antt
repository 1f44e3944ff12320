-- The store and the history as values that calls change, with their stamps (this project's own).
use Rattle.std.specs.Prelude.{ℕ, ◌+◌, Bool, cond, not, ◌&&◌, ◌==◌, List, [], ◌∷◌, ◌++◌, Option, Some, None, filter}
use Rattle.std.specs.List.{list_any}
use Rattle.chr_semantics.specs.Tree.{is_ground_trees}
use Rattle.chr_semantics.specs.Subst.{Subst, instances, value_at}
use Rattle.chr_semantics.specs.Program.{Atom}
use Rattle.chr_semantics.specs.Match.{Row}
use Rattle.chr_semantics.specs.Search.{History, atom_of, fired_before, has_number, ids_of}

-- The constraints by ascending identity, as they were added; the next identity; for each symbol, and for all, the number of calls so far
-- that touched it.
pub record Store : Type 0 where
  pub rows : List Row
  pub next_id : ℕ
  pub stamps : ℕ → ℕ
  pub changes : ℕ

abbrev pub empty_store : Store
empty_store = record { rows = []; next_id = 1; stamps = λ f. 0; changes = 0 }

-- a call that touches the symbols which pass
abbrev pub touching : (ℕ → Bool) → Store → Store
touching passes s = record s { stamps = λ f. s.stamps f + cond (passes f) 1 0; changes = s.changes + 1 }

-- a constraint is added under the next identity
abbrev pub added : Store → Atom → Store
added s a = touching (λ f. a.sym == f) (record s { rows = s.rows ++ (s.next_id, a) ∷ []; next_id = s.next_id + 1 })

-- that of an identity is removed, where it is there
abbrev pub removed_as : Store → ℕ → Option Atom → Store
removed_as s i None = s
removed_as s i (Some a) = touching (λ f. a.sym == f) (record s { rows = filter (λ (r : Row). not (r.0 == i)) s.rows })

abbrev pub removed : Store → ℕ → Store
removed s i = removed_as s i (atom_of s.rows i)

-- bindings have changed what some constraints stand for: their symbols are touched, each once
abbrev pub rebound : Store → List ℕ → Store
rebound s [] = s
rebound s (i ∷ is) = touching (λ f. list_any (λ (r : Row). r.1.sym == f && has_number (i ∷ is) r.0) s.rows) s

-- the identities of the constraints that are not ground under the bindings
abbrev pub woken : Store → Subst → List ℕ
woken s m = ids_of (filter (λ (r : Row). not (is_ground_trees (instances (value_at m) r.1.args))) s.rows)

-- The entries in order, and for each rule the number of calls so far that entered a firing of it.
pub record Entries : Type 0 where
  pub list : History
  pub stamps : ℕ → ℕ

abbrev pub no_entries : Entries
no_entries = record { list = []; stamps = λ r. 0 }

-- a firing is entered, where it is not there
abbrev pub entered : Entries → ℕ → List ℕ → Entries
entered h r ids = cond (fired_before h.list r ids) h (record { list = h.list ++ (r, ids) ∷ []; stamps = λ m. h.stamps m + cond (r == m) 1 0 })
