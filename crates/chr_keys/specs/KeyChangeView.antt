-- What is listed after what is noted.
use Rattle.std.specs.Prelude.{ℕ, Bool, true, false, Option, Some, None}
use Rattle.chr_keys.specs.Lists.{list_after}
use Rattle.chr_keys.specs.declared.key_change.KeyChange.{KeyChange}
use Rattle.chr_keys.specs.declared.symbol_key.SymbolKey.{SymbolKey}

-- after a change of the list of a key, if there is one
abbrev pub key_after : Option SymbolKey → ℕ → Bool → (SymbolKey × ℕ → Bool) → SymbolKey × ℕ → Bool
key_after None i b listed x = listed x
key_after (Some p) i b listed x = list_after p i b listed x

-- and after what is noted
abbrev pub changed_after : KeyChange → (SymbolKey × ℕ → Bool) → SymbolKey × ℕ → Bool
changed_after n listed x = key_after n.into n.id.0 true (key_after n.out n.id.0 false listed) x
