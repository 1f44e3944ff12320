use Rattle.std.proofs.Common.{◌≡◌, length}
use Rattle.chr_store.specs.RowsLeft.{rows_left}
use Rattle.chr_store.proofs.rows.RowsIterator.next.Given as goal

abbrev pub decreases-loop-slot : goal.decreases-loop-slot
decreases-loop-slot g l = length l.self.slots.now

-- the empty slots so far had no rows
abbrev pub invariant-loop-slot : goal.invariant-loop-slot
invariant-loop-slot g l = rows_left l.self ≡ rows_left l.initial.self
