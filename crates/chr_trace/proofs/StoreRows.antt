-- How many rows slots have.
use Rattle.std.proofs.Common.{◌≤◌, ◌+◌, ℕ, List, [], ◌∷◌, length, Option, Some, None, arith}
use Rattle.chr_store.specs.Rows.{rows_from}
use Rattle.chr_store.specs.declared.row.Row.{Row}

-- at most one for each slot
pub length-rows : {A : Type 0} (k : ℕ) (slots : List (Option (Row A))) → length (rows_from k slots) ≤ length slots
length-rows k [] = omega arith
length-rows k (None ∷ slots) = omega (arith, length-rows (k + 1) slots)
length-rows k (Some r ∷ slots) = omega (arith, length-rows (k + 1) slots)
