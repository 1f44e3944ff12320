-- The places of rows in an index: each has a bucket and an identity.
use Rattle.std.specs.Prelude.{◌≡◌, ℕ, Bool, true, false, not, cond, ◌&&◌, ◌==◌, List, [], Option, Some, None, option_map}
use Rattle.std.specs.List.{list_any}
use Rattle.std.specs.declared.cmp.Ordering.{Ordering}
use Rattle.chr_map.specs.Order.{value_of}
use Rattle.chr_semantics.specs.Keys.{arg_at, is_root, root_of}
use Rattle.chr_semantics.specs.Program.{Atom}
use Rattle.chr_semantics.specs.Tree.{is_ground_trees}
use Rattle.chr_store.specs.Rows.{row_atom}
use Rattle.chr_store.specs.declared.id.Id.{Id}
use Rattle.chr_store.specs.declared.row.Row.{Row}
use Rattle.chr_find.specs.IdRows.{id_cmp}
use Rattle.chr_find.specs.RootView.{root_view}
use Rattle.chr_find.specs.contracts.bucket.BucketOrd.TheImpl.{ghosts}
use Rattle.chr_find.specs.contracts.bucket.BucketPartialEq.TheImpl.{ghosts as equality}
use Rattle.chr_find.specs.PlanView.{is_lookup}
use Rattle.chr_find.specs.declared.bucket.Bucket.{Bucket}
use Rattle.chr_find.specs.declared.bucket.Bucket.TheVariants.{All, Open, Symbol, At}
use Rattle.chr_find.specs.declared.index.Index.{Index}
use Rattle.chr_find.specs.declared.plan.Lookup.{Lookup}
use Rattle.chr_find.specs.declared.plan.Lookup.TheVariants.{Position, Symbol as Alone}

pub record IndexKey : Type 0 where
  pub bucket : Bucket
  pub id : Id

abbrev pub bucket_cmp : Bucket → Bucket → Ordering
bucket_cmp = ghosts.cmp

abbrev pub same_bucket : Bucket → Bucket → Bool
same_bucket = equality.eq

abbrev pub same_index_key : IndexKey → IndexKey → Bool
same_index_key q p = same_bucket q.bucket p.bucket && (q.id.0 == p.id.0)

abbrev pub is_all : Bucket → Bool
is_all All = true
is_all Open = false
is_all (Symbol f) = false
is_all (At f p k) = false

-- an atom is in the list, where these are the indexes of its symbol
abbrev pub in_bucket : List Lookup → Atom → Bucket → Bool
in_bucket ps a All = true
in_bucket ps a Open = not (is_ground_trees a.args)
in_bucket ps a (Symbol f) = f.0 == a.sym && list_any (is_lookup Alone) ps
in_bucket ps a (At f p k) = f.0 == a.sym && (list_any (is_lookup (Position p)) ps && is_root (root_view k) (option_map root_of (arg_at a.args p)))

-- it is in the list by that index
abbrev pub has_at : Lookup → Atom → Bucket → Bool
has_at x a All = false
has_at x a Open = false
has_at x a (Symbol f) = f.0 == a.sym && is_lookup Alone x
has_at x a (At f p k) = f.0 == a.sym && (is_lookup (Position p) x && is_root (root_view k) (option_map root_of (arg_at a.args p)))

module _ {A : Type 0} where
  -- the place of the identity i in one of the row's lists
  abbrev pub is_key_of : List Lookup → ℕ → Row A → IndexKey → Bool
  is_key_of ps i r q = q.id.0 == i && in_bucket ps (row_atom r) q.bucket

  -- and in that by the index
  abbrev pub is_key_by : Lookup → ℕ → Row A → IndexKey → Bool
  is_key_by x i r q = q.id.0 == i && has_at x (row_atom r) q.bucket

  abbrev pub listed : Option (List (Id × Row A)) → List (Id × Row A)
  listed None = []
  listed (Some rows) = rows

  -- the rows of a bucket
  abbrev pub other_rows : Index A → Bucket → List (Id × Row A)
  other_rows x l = listed (value_of bucket_cmp x.buckets l)

  abbrev pub rows_in : Index A → Bucket → List (Id × Row A)
  rows_in x l = cond (is_all l) x.all (other_rows x l)

  -- the row at a place
  abbrev pub held : Index A → IndexKey → Option (Row A)
  held x q = value_of id_cmp (rows_in x q.bucket) q.id

  abbrev pub row_if : Bool → Row A → Option (Row A)
  row_if b r = cond b (Some r) None

  -- the row stands at all its places, or at none, and elsewhere stands what stood there
  abbrev pub AreSet : List Lookup → ℕ → Row A → Bool → Index A → Index A → Type 0
  AreSet ps i r b new old = (q : IndexKey) → held new q ≡ cond (is_key_of ps i r q) (row_if b r) (held old q)

  -- the same for the list by one index
  abbrev pub AreSetAt : Lookup → ℕ → Row A → Bool → Index A → Index A → Type 0
  AreSetAt x i r b new old = (q : IndexKey) → held new q ≡ cond (is_key_by x i r q) (row_if b r) (held old q)

  -- at places that are none of the row's stands what stood there
  abbrev pub AreKept : List Lookup → ℕ → Row A → Index A → Index A → Type 0
  AreKept ps i r new old = (q : IndexKey) → is_key_of ps i r q ≡ false → held new q ≡ held old q
