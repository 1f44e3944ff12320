-- Rows in the place of others.
use Rattle.std.specs.Prelude.{◌≡◌, ◌⊎◌, ℕ, Bool, false, not, cond, ◌==◌, List, [], ◌∷◌, ◌++◌, Option, Some, None, filter, option_map}
use Rattle.chr_semantics.specs.Match as semantics
use Rattle.chr_semantics.specs.Program.{Atom}
use Rattle.chr_semantics.specs.Search.{atom_of, ids_of}
use Rattle.chr_semantics.specs.State.{resolved_atom}
use Rattle.chr_semantics.specs.Subst.{Subst, instances, value_at}
use Rattle.chr_semantics.specs.Tree.{is_ground_trees}
use Rattle.chr_store.specs.Numbers.{numbers}
use Rattle.chr_store.specs.Rows.{row_atom}
use Rattle.chr_store.specs.declared.id.Id.{Id}
use Rattle.chr_store.specs.declared.row.Row.{Row}
use Rattle.chr_find.specs.Shown.{AllUnder, Rises}
use Rattle.chr_find.specs.declared.rebinding.Replaced.{Replaced}
use Rattle.chr_find.specs.declared.constraint.Constraint.{Constraint}

-- the constraints of the rows, and at other identities those that were there
abbrev pub over : List semantics.Row → (ℕ → Option Atom) → ℕ → Option Atom
over [] f i = f i
over (c ∷ rows) f i = cond (c.0 == i) (Some c.1) (over rows f i)

module _ {A : Type 0} where
  abbrev pub new_rows : List (Replaced A) → List semantics.Row
  new_rows [] = []
  new_rows (r ∷ rs) = (r.id.0, row_atom r.new) ∷ new_rows rs

  abbrev pub AreThere : (ℕ → Option Atom) → List (Replaced A) → Type 0
  AreThere f [] = Unit {0}
  AreThere f (r ∷ rs) = (f r.id.0 ≡ Some (row_atom r.old)) × AreThere f rs

  -- the old rows are there, and the identities ascend
  pub record Replaces (f : ℕ → Option Atom) (rs : List (Replaced A)) : Type 0 where
    pub rises : Rises (new_rows rs)
    pub there : AreThere f rs

  abbrev pub standing_rows : List (Constraint A) → List semantics.Row
  standing_rows [] = []
  standing_rows (s ∷ ss) = (s.id.0, row_atom s.row) ∷ standing_rows ss

  -- the constraint under a substitution, or nothing where that is itself
  abbrev pub IsResolved : Subst → Atom → Option (Row A) → Type 0
  IsResolved s a None = resolved_atom s a ≡ a
  IsResolved s a (Some r) = row_atom r ≡ resolved_atom s a

-- the constraint has variables under the substitution
abbrev pub is_open : Subst → semantics.Row → Bool
is_open s c = not (is_ground_trees (instances (value_at s) c.1.args))

abbrev pub open_ids : Subst → List semantics.Row → List ℕ
open_ids s rows = ids_of (filter (is_open s) rows)

-- what a substitution makes of these rows, where f are all constraints: rows in place of others, and the identities of those that have
-- variables still
pub record IsMade {A : Type 0} (s : Subst) (f : ℕ → Option Atom) (rows : List semantics.Row) (rs : List (Replaced A)) (ids : List Id) : Type 0 where
  pub replaces : Replaces f rs
  pub under : (n : ℕ) → AllUnder n rows → AllUnder n (new_rows rs)
  pub right : (i : ℕ) (b : Atom) → atom_of (new_rows rs) i ≡ Some b → Some b ≡ option_map (resolved_atom s) (f i)
  pub covered : (i : ℕ) (a : Atom) → atom_of rows i ≡ Some a → (resolved_atom s a ≡ a) ⊎ (atom_of (new_rows rs) i ≡ Some (resolved_atom s a))
  pub woken : numbers ids ≡ open_ids s rows

-- one row more, which has variables and an identity greater than those before
abbrev pub Adds : {A : Type 0} → Subst → Constraint A → List (Replaced A) → List Id → List (Replaced A) → List Id → Type 0
Adds s c rs ids new more =
    (f : ℕ → Option Atom) (rows : List semantics.Row) → IsMade s f rows rs ids → AllUnder c.id.0 rows → f c.id.0 ≡ Some (row_atom c.row) → is_ground_trees (row_atom c.row).args ≡ false
    → IsMade s f (rows ++ (c.id.0, row_atom c.row) ∷ []) new more
