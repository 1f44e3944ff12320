-- What is listed under a symbol and a key, after a change.
use Rattle.std.specs.Prelude.{ℕ, ◌&&◌, ◌==◌, Bool, cond, Option, Some, None, option_copied, option_map}
use Rattle.std.specs.Borrow.{Bor}
use Rattle.chr_semantics.specs.Keys as semantics
use Rattle.chr_semantics.specs.Keys.{first_key, same_keys}
use Rattle.chr_semantics.specs.Program.{Atom}
use Rattle.chr_store.specs.Rows.{row_atom}
use Rattle.chr_store.specs.declared.row.Row.{Row}

-- the atom is of the symbol, and its first argument has the key, or neither has one
abbrev pub is_keyed : Atom → ℕ → Option semantics.Key → Bool
is_keyed a f k = a.sym == f && same_keys k (first_key a)

-- the atom of a row, if there is one
abbrev pub atom_in : {A : Type 0} → Option (Bor (Row A)) → Option Atom
atom_in r = option_map row_atom (option_copied r)

-- what is listed after the identity i enters the list of an atom, where b is true, or leaves it
abbrev pub listed_after : Option Atom → ℕ → Bool → (ℕ → Option semantics.Key → ℕ → Bool) → ℕ → Option semantics.Key → ℕ → Bool
listed_after None i b listed f k j = listed f k j
listed_after (Some a) i b listed f k j = cond (j == i && is_keyed a f k) b (listed f k j)
