use Rattle.std.proofs.Common.{◌+◌, length, ℕ}
use Rattle.chr_find.specs.TableView.{HasRoom, IsForAll, atom_at}
use Rattle.chr_find.proofs.Rebinds.{IsOn}
use Rattle.chr_find.proofs.table.Table.replace_all.Given as goal

abbrev pub invariant-loop-replaced : goal.invariant-loop-replaced
invariant-loop-replaced g l =
    IsOn (atom_at l.fn.self) (atom_at l.self) l.left.items l.fn.left.items
    × (((n : ℕ) → HasRoom (n + length l.fn.left.items) l.fn.self → HasRoom (n + length l.left.items) l.self) × IsForAll l.self)

abbrev pub decreases-loop-replaced : goal.decreases-loop-replaced
decreases-loop-replaced g l = length l.left.items
