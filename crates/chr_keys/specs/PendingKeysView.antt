-- What is listed, as when all that is noted is made.
use Rattle.std.specs.Prelude.{◌≡◌, ◌≤◌, ℕ, Bool, Option}
use Rattle.chr_semantics.specs.Keys as semantics
use Rattle.chr_keys.specs.Lists.{is_in_list}
use Rattle.chr_keys.specs.KeyChangeView.{changed_after}
use Rattle.chr_keys.specs.Changes.{after_all}
use Rattle.chr_keys.specs.SymbolKeys.{symbol_key_of}
use Rattle.chr_keys.specs.declared.pending_keys.PendingKeys.{PendingKeys}

module _ {A : Type 0} where
  -- the identity is listed under the symbol and the key
  abbrev pub is_listed : PendingKeys A → ℕ → Option semantics.Key → ℕ → Bool
  is_listed n f k i = after_all changed_after n.pending.left (is_in_list n.keys.lists) (symbol_key_of f k, i)

  -- all is made
  pub record IsSettled (n : PendingKeys A) : Type 0 where
    pub listed : (f : ℕ) (k : Option semantics.Key) (i : ℕ) → is_listed n f k i ≡ is_in_list n.keys.lists (symbol_key_of f k, i)

  -- there is room for this number of further changes
  abbrev pub HasRoom : ℕ → PendingKeys A → Type 0
  HasRoom k n = k ≤ n.pending.room
