-- The constraints of a table.
use Rattle.std.specs.Prelude.{◌≡◌, ℕ, Bool, cond, ◌==◌, List, Option, Some, is_some}
use Rattle.chr_semantics.specs.Match as semantics
use Rattle.chr_semantics.specs.Program.{Atom}
use Rattle.chr_semantics.specs.Search.{atom_of}
use Rattle.chr_find.specs.LentKeysView as keyed
use Rattle.chr_find.specs.PendingIndexView.{indexed_atom}
use Rattle.chr_find.specs.Newest.{with_newest}
use Rattle.chr_find.specs.PendingIndexView as noted
use Rattle.chr_find.specs.Shown.{Rises}
use Rattle.chr_find.specs.declared.constraint.Constraint.{Constraint}
use Rattle.chr_find.specs.declared.table.Table.{Table}

-- with the constraint at an identity, or with none there
abbrev pub atoms_with : (ℕ → Option Atom) → ℕ → Option Atom → ℕ → Option Atom
atoms_with f i o j = cond (j == i) o (f j)

module _ {A : Type 0} where
  -- the constraint of an identity
  abbrev pub atom_at : Table A → ℕ → Option Atom
  atom_at t i = with_newest t.newest (indexed_atom t.index) i

  abbrev pub lives : Table A → ℕ → Bool
  lives t i = is_some (atom_at t i)

  -- all changes that were noted are made
  pub record IsSettled (t : Table A) : Type 0 where
    pub index : noted.IsSettled t.index
    pub keyed : keyed.IsSettled t.keyed

  -- no constraint but this one, at the most, stands beside the lists, so that they are all that a search for it looks at
  abbrev pub IsFor : ℕ → Table A → Type 0
  IsFor own t = (s : Constraint A) → t.newest ≡ Some s → s.id.0 ≡ own

  -- that is so for each constraint: none stands beside the lists
  abbrev pub IsForAll : Table A → Type 0
  IsForAll t = (own : ℕ) → IsFor own t

  -- the lists are whole
  pub record IsWhole (t : Table A) : Type 0 where
    pub settled : IsSettled t
    pub all : IsForAll t

  -- there is room for this number of further changes
  abbrev pub HasRoom : ℕ → Table A → Type 0
  HasRoom k t = noted.HasRoom k t.index × keyed.HasRoom k t.keyed

  -- it keeps the identities by key
  abbrev pub IsKeyed : Table A → Type 0
  IsKeyed t = keyed.IsKept t.keyed

  -- the table has these constraints, ascending
  pub record HasRows (t : Table A) (rows : List semantics.Row) : Type 0 where
    pub rises : Rises rows
    pub same : (i : ℕ) → atom_of rows i ≡ atom_at t i
