-- The slots of a store as the rows that it holds.
use Rattle.std.specs.Prelude.{◌≡◌, ℕ, ◌+◌, ◌==◌, not, filter, List, [], ◌∷◌, Option, Some, None}
use Rattle.chr_semantics.specs.Program.{Atom}
use Rattle.chr_semantics.specs.Search.{atom_of}
use Rattle.chr_semantics.specs.Match as semantics
use Rattle.chr_term.specs.TermView.{atom_over}
use Rattle.chr_store.specs.declared.row.Row.{Row}

abbrev pub row_atom : {A : Type 0} → Row A → Atom
row_atom r = atom_over r.sym r.args

-- the rows in slots whose first has the identity k
abbrev pub rows_from : {A : Type 0} → ℕ → List (Option (Row A)) → List semantics.Row
rows_from k [] = []
rows_from k (None ∷ slots) = rows_from (k + 1) slots
rows_from k (Some r ∷ slots) = (k, row_atom r) ∷ rows_from (k + 1) slots

-- without the row of an identity
abbrev pub rows_without : ℕ → List semantics.Row → List semantics.Row
rows_without i rows = filter (λ (r : semantics.Row). not (r.0 == i)) rows

-- no row has the identity
pub record IsAbsent (rows : List semantics.Row) (i : ℕ) : Type 0 where
  pub no_atom : atom_of rows i ≡ None
  pub kept : rows_without i rows ≡ rows
