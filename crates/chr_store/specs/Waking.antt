-- Which constraints of a store a binding wakes, and their symbols.
use Rattle.std.specs.Prelude.{ℕ, Bool, false, not, ◌==◌, List, Option, Some, None}
use Rattle.std.specs.List.{list_any}
use Rattle.std.specs.Borrow.{Bor}
use Rattle.chr_semantics.specs.Match as semantics
use Rattle.chr_semantics.specs.Program.{Atom}
use Rattle.chr_semantics.specs.Search.{atom_of}
use Rattle.chr_semantics.specs.Subst.{Subst, instances, value_at}
use Rattle.chr_semantics.specs.Tree.{is_ground_trees}
use Rattle.chr_store.specs.Rows.{row_atom}
use Rattle.chr_store.specs.declared.id.Id.{Id}
use Rattle.chr_store.specs.declared.row.Row.{Row}

-- there is a constraint that is not ground under the substitution
abbrev pub wakes_atom : Subst → Option Atom → Bool
wakes_atom m None = false
wakes_atom m (Some a) = not (is_ground_trees (instances (value_at m) a.args))

abbrev pub wakes_row : {A : Type 0} → Subst → Option (Bor (Row A)) → Bool
wakes_row m None = false
wakes_row m (Some r) = wakes_atom m (Some (row_atom r.now))

-- there is a constraint, of the symbol
abbrev pub has_symbol : ℕ → Option Atom → Bool
has_symbol f None = false
has_symbol f (Some a) = a.sym == f

-- one of the identities is that of a constraint of the symbol
abbrev pub has_symbol_among : List semantics.Row → List Id → ℕ → Bool
has_symbol_among rows ids f = list_any (λ (i : Id). has_symbol f (atom_of rows i.0)) ids
