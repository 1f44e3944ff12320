-- What a list is of: a symbol, and the key of the first argument, if it has one.
use Rattle.std.specs.Prelude.{ℕ, Option, Some, None}
use Rattle.std.specs.declared.cmp.Ordering.{Ordering}
use Rattle.chr_semantics.specs.Keys as semantics
use Rattle.chr_semantics.specs.Keys.{first_key, number, name}
use Rattle.chr_semantics.specs.Program.{Atom}
use Rattle.chr_keys.specs.contracts.symbol_key.SymbolKeyOrd.TheImpl.{ghosts}
use Rattle.chr_keys.specs.declared.symbol_key.FirstKey.{FirstKey}
use Rattle.chr_keys.specs.declared.symbol_key.FirstKey.TheVariants.{Keyless, Int, Name}
use Rattle.chr_keys.specs.declared.symbol_key.SymbolKey.{SymbolKey}

abbrev pub symbol_key_cmp : SymbolKey → SymbolKey → Ordering
symbol_key_cmp = ghosts.cmp

abbrev pub first_key_of : Option semantics.Key → FirstKey
first_key_of None = Keyless
first_key_of (Some (number z)) = Int z
first_key_of (Some (name f)) = Name (record { 0 = f })

abbrev pub symbol_key_of : ℕ → Option semantics.Key → SymbolKey
symbol_key_of f k = record { sym = record { 0 = f }; key = first_key_of k }

-- where an atom is listed
abbrev pub atom_key : Atom → SymbolKey
atom_key a = symbol_key_of a.sym (first_key a)
