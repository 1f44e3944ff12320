-- The identities in lists, and after a change of one list.
use Rattle.std.specs.Prelude.{ℕ, ◌&&◌, ◌==◌, Bool, cond, List, [], Option, Some, None}
use Rattle.std.specs.Ordering.{is_eq}
use Rattle.chr_map.specs.Order.{value_of}
use Rattle.chr_semantics.specs.Search.{has_number}
use Rattle.chr_keys.specs.SymbolKeys.{symbol_key_cmp}
use Rattle.chr_keys.specs.declared.symbol_key.SymbolKey.{SymbolKey}

-- the identities in a list, none where there is no list
abbrev pub ids_in : Option (List ℕ) → List ℕ
ids_in None = []
ids_in (Some ids) = ids

-- the identities under a key
abbrev pub ids_at : List (SymbolKey × List ℕ) → SymbolKey → List ℕ
ids_at lists p = ids_in (value_of symbol_key_cmp lists p)

-- the identity is in the list of the key
abbrev pub is_in_list : List (SymbolKey × List ℕ) → SymbolKey × ℕ → Bool
is_in_list lists x = has_number (ids_at lists x.0) x.1

-- after the identity i enters the list of the key p, where b is true, or leaves it
abbrev pub list_after : SymbolKey → ℕ → Bool → (SymbolKey × ℕ → Bool) → SymbolKey × ℕ → Bool
list_after p i b listed x = cond (x.1 == i && is_eq (symbol_key_cmp x.0 p)) b (listed x)
