use Rattle.std.proofs.Common.{take}
use Rattle.chr_find.specs.Rebinding.{IsMade, standing_rows}
use Rattle.chr_find.specs.TableView.{atom_at}
use Rattle.chr_find.proofs.table.Table.rebound.Given as goal

abbrev pub invariant-loop-standing : goal.invariant-loop-standing
invariant-loop-standing g l = IsMade l.bindings.subst (atom_at l.self) (standing_rows (take l.standing-index l.standing-items)) l.rebound.replaced.items l.rebound.woken.items
