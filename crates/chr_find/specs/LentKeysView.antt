-- The identities that a table keeps by key, if it does.
use Rattle.std.specs.Prelude.{◌≡◌, ℕ, Bool, true, false, Option, Some, None, is_some}
use Rattle.chr_keys.specs.Keyed.{is_keyed}
use Rattle.chr_keys.specs.PendingKeysView as noted
use Rattle.chr_keys.specs.declared.pending_keys.PendingKeys.{PendingKeys}
use Rattle.chr_semantics.specs.Keys as semantics
use Rattle.chr_semantics.specs.Program.{Atom}
use Rattle.chr_find.specs.declared.lent_keys.LentKeys.{LentKeys}

-- there is a constraint, and it has this symbol and this key
abbrev pub is_keyed_at : Option Atom → ℕ → Option semantics.Key → Bool
is_keyed_at None f k = false
is_keyed_at (Some a) f k = is_keyed a f k

module _ {A : Type 0} where
  -- of the keys, if there are any
  abbrev pub OfKeys : (PendingKeys A → Type 0) → LentKeys A → Type 0
  OfKeys P d = (keys : PendingKeys A) → d.keys ≡ Some keys → P keys

  -- under a symbol and a key stand the identities whose constraints have them
  abbrev pub AreListed : (ℕ → Option Atom) → LentKeys A → Type 0
  AreListed atoms = OfKeys (λ keys. (f : ℕ) (k : Option semantics.Key) (i : ℕ) → noted.is_listed keys f k i ≡ is_keyed_at (atoms i) f k)

  abbrev pub IsSettled : LentKeys A → Type 0
  IsSettled = OfKeys noted.IsSettled

  abbrev pub HasRoom : ℕ → LentKeys A → Type 0
  HasRoom n = OfKeys (noted.HasRoom n)

  -- they are kept
  abbrev pub IsKept : LentKeys A → Type 0
  IsKept d = is_some d.keys ≡ true
