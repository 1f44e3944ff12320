use Rattle.std.proofs.Common.{◌≡◌, ℕ, length}
use Rattle.std.specs.Prelude.{Option}
use Rattle.chr_semantics.specs.Keys as semantics
use Rattle.chr_keys.specs.PendingKeysView.{is_listed}
use Rattle.chr_keys.proofs.pending_keys.PendingKeys.settle.Given as goal

abbrev pub decreases-loop-change : goal.decreases-loop-change
decreases-loop-change g l = length l.self.pending.left

abbrev pub invariant-loop-change : goal.invariant-loop-change
invariant-loop-change g l = (f : ℕ) (k : Option semantics.Key) (i : ℕ) → is_listed l.self f k i ≡ is_listed l.fn.self f k i
