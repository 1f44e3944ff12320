-- Lists of identities by what they are of.
use Rattle.std.specs.Prelude.{◌≡◌, ℕ, ◌&&◌, ◌==◌, ◌<◌, true, [], Bool, not, List, Option, Some, None, filter, slice_get}
use Rattle.indexmap.specs.IndexMap.{get}
use Rattle.chr_semantics.specs.Keys.{first_key, is_of, same_keys}
use Rattle.chr_semantics.specs.Match.{Row}
use Rattle.chr_semantics.specs.Program.{Atom}
use Rattle.chr_semantics.specs.Search.{ids_of}
use Rattle.chr_semantics.specs.Tree.{is_ground_trees}
use Rattle.chr_store.specs.IdsValue.{IdsValue}
use Rattle.chr_store.specs.KeyView.{keys_view}
use Rattle.chr_store.specs.declared.key.Key.{Key}
use Rattle.chr_store.specs.declared.lists.Lists.{Lists}
use Rattle.chr_store.specs.declared.lists.Look.{Look}
use Rattle.chr_store.specs.declared.lists.Look.TheVariants.{Symbol, Keyed, Open}
use Rattle.chr_store.specs.declared.lists.Looks.{Looks}
use Rattle.chr_store.specs.declared.lists.OfSymbol.{OfSymbol}
use Rattle.chr_store.specs.contracts.key.KeyPartialEq.TheImpl.{ghosts}

abbrev pub same_key : Key → Key → Bool
same_key = ghosts.eq

-- the row is in the list
abbrev pub is_listed : Look → Row → Bool
is_listed (Symbol f) c = is_of f.0 c
is_listed (Keyed f k) c = is_of f.0 c && same_keys (keys_view k) (first_key c.1)
is_listed Open c = not (is_ground_trees c.1.args)

abbrev pub listed_ids : List Row → Look → List ℕ
listed_ids rows look = ids_of (filter (is_listed look) rows)

-- each list has the identities of its rows
abbrev pub AreListed : (Look → List ℕ) → List Row → Type 0
AreListed lists rows = (look : Look) → lists look ≡ listed_ids rows look

-- the identities of a list, none where there is no list
abbrev pub ids_in : Option IdsValue → List ℕ
ids_in None = []
ids_in (Some v) = v.ids

-- how many more fit, none where there is no list
abbrev pub spare_in : Option IdsValue → ℕ
spare_in None = 0
spare_in (Some v) = v.spare

-- the lists that a constraint with these looks is in
abbrev pub is_at : Looks → Look → Bool
is_at a (Symbol f) = a.sym.0 == f.0
is_at a (Keyed f k) = a.sym.0 == f.0 && same_keys (keys_view k) (keys_view a.key)
is_at a Open = a.has_variables

-- the looks are those of an atom
pub record AreLooksOf (a : Atom) (l : Looks) : Type 0 where
  pub sym : l.sym.0 ≡ a.sym
  pub key : keys_view l.key ≡ first_key a
  pub variables : l.has_variables ≡ not (is_ground_trees a.args)

-- of a symbol's lists, the one for a key of the first argument, or for none
abbrev pub ids_keyed : {A : Type 0} → OfSymbol A → Option Key → List ℕ
ids_keyed l None = l.keyless.ids
ids_keyed l (Some k) = ids_in (get same_key l.keyed k)

abbrev pub spare_keyed : {A : Type 0} → OfSymbol A → Option Key → ℕ
spare_keyed l None = l.keyless.spare
spare_keyed l (Some k) = spare_in (get same_key l.keyed k)

-- the same where a symbol may have no lists
abbrev pub ids_of_symbol : {A : Type 0} → Option (OfSymbol A) → List ℕ
ids_of_symbol None = []
ids_of_symbol (Some l) = l.all.ids

abbrev pub spare_of_symbol : {A : Type 0} → Option (OfSymbol A) → ℕ
spare_of_symbol None = 0
spare_of_symbol (Some l) = l.all.spare

abbrev pub ids_of_key : {A : Type 0} → Option Key → Option (OfSymbol A) → List ℕ
ids_of_key k None = []
ids_of_key k (Some l) = ids_keyed l k

abbrev pub spare_of_key : {A : Type 0} → Option Key → Option (OfSymbol A) → ℕ
spare_of_key k None = 0
spare_of_key k (Some l) = spare_keyed l k

abbrev pub ids_under : {A : Type 0} → Lists A → Look → List ℕ
ids_under lists (Symbol f) = ids_of_symbol (slice_get lists.by_symbol.items f.0)
ids_under lists (Keyed f k) = ids_of_key k (slice_get lists.by_symbol.items f.0)
ids_under lists Open = lists.open.ids

abbrev pub spare_under : {A : Type 0} → Lists A → Look → ℕ
spare_under lists (Symbol f) = spare_of_symbol (slice_get lists.by_symbol.items f.0)
spare_under lists (Keyed f k) = spare_of_key k (slice_get lists.by_symbol.items f.0)
spare_under lists Open = lists.open.spare

-- one more constraint fits in its lists
pub record HasRoomAt (spare : Look → ℕ) (a : Looks) : Type 0 where
  pub symbol : 0 < spare (Symbol a.sym)
  pub key : 0 < spare (Keyed a.sym a.key)
  pub variables : a.has_variables ≡ true → 0 < spare Open
