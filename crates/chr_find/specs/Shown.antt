-- The constraints that a table shows.
use Rattle.std.specs.Prelude.{◌≡◌, ◌<◌, ℕ, Bool, true, cond, List, [], ◌∷◌, Option, Some, None, option_map, filter}
use Rattle.std.specs.List.{list_any}
use Rattle.chr_semantics.specs.Cursor.{is_new}
use Rattle.chr_semantics.specs.Match as semantics
use Rattle.chr_semantics.specs.Program.{Atom}
use Rattle.chr_store.specs.Rows.{row_atom}
use Rattle.chr_store.specs.declared.row.Row.{Row}
use Rattle.chr_find.specs.IdRows.{id_rows}
use Rattle.chr_semantics.specs.Search.{atom_of}
use Rattle.chr_semantics.specs.Tree.{is_ground_trees}
use Rattle.chr_find.specs.IndexKeys.{IndexKey, in_bucket, held, rows_in}
use Rattle.chr_find.specs.declared.bucket.Bucket.{Bucket}
use Rattle.chr_find.specs.declared.index.Index.{Index}
use Rattle.chr_find.specs.declared.plan.Lookup.{Lookup}

-- the atom, if it is in the list
abbrev pub atom_in : Bucket → (ℕ → List Lookup) → Option Atom → Option Atom
atom_in l ps None = None
atom_in l ps (Some a) = cond (in_bucket (ps a.sym) a l) (Some a) None

module _ {A : Type 0} where
  -- each place of a list has the constraint of its identity, if that is in the list
  abbrev pub Shows : (ℕ → List Lookup) → (IndexKey → Option (Row A)) → (ℕ → Option Atom) → Type 0
  Shows ps at f = (q : IndexKey) → option_map row_atom (at q) ≡ atom_in q.bucket ps (f q.id.0)

  -- the constraints in a list, ascending
  abbrev pub walk : Bucket → Index A → List semantics.Row
  walk l x = id_rows (rows_in x l)

-- no constraint has variables
abbrev pub AreGround : (ℕ → Option Atom) → Type 0
AreGround f = (i : ℕ) (a : Atom) → f i ≡ Some a → is_ground_trees a.args ≡ true

-- the constraints that are in a list
abbrev pub bucket_rows : Bucket → (ℕ → List Lookup) → List semantics.Row → List semantics.Row
bucket_rows l ps rows = filter (λ (c : semantics.Row). in_bucket (ps c.1.sym) c.1 l) rows

-- all identities are greater than n
abbrev pub AllOver : ℕ → List semantics.Row → Type 0
AllOver n [] = Unit {0}
AllOver n (c ∷ rows) = (n < c.0) × AllOver n rows

-- all identities are less than n
abbrev pub AllUnder : ℕ → List semantics.Row → Type 0
AllUnder n [] = Unit {0}
AllUnder n (c ∷ rows) = (c.0 < n) × AllUnder n rows

-- each identity is less than all after it
abbrev pub Rises : List semantics.Row → Type 0
Rises [] = Unit {0}
Rises (c ∷ rows) = AllOver c.0 rows × Rises rows

-- one of them has an identity that is not below `from`
abbrev pub any_new : ℕ → List semantics.Row → Bool
any_new from rows = list_any (λ (c : semantics.Row). is_new from c.0) rows

-- the index shows these rows
pub record IsShown {A : Type 0} (ps : ℕ → List Lookup) (x : Index A) (rows : List semantics.Row) : Type 0 where
  pub rises : Rises rows
  pub shows : Shows ps (held x) (atom_of rows)

-- for each list of rows that the index shows
abbrev pub ForRows : {A : Type 0} → (ℕ → List Lookup) → Index A → (List semantics.Row → Type 0) → Type 0
ForRows ps x P = (rows : List semantics.Row) → IsShown ps x rows → P rows
