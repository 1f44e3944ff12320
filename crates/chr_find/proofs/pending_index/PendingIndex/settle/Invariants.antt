use Rattle.std.proofs.Common.{◌≡◌, length}
use Rattle.chr_find.specs.IndexKeys.{IndexKey}
use Rattle.chr_find.specs.PendingIndexView.{row_at}
use Rattle.chr_find.proofs.pending_index.PendingIndex.settle.Given as goal

abbrev pub decreases-loop-note : goal.decreases-loop-note
decreases-loop-note g l = length l.self.pending.left

abbrev pub invariant-loop-note : goal.invariant-loop-note
invariant-loop-note g l = ((q : IndexKey) → row_at l.self q ≡ row_at l.fn.self q) × (l.self.plan ≡ l.fn.self.plan)
