use Rattle.std.proofs.Common.{◌≡◌, length}
use Rattle.chr_store.specs.declared.fired.Fired.{Fired}
use Rattle.chr_find.specs.PendingFiringsView.{noted_firing}
use Rattle.chr_find.proofs.pending_firings.PendingFirings.settle.Given as goal

abbrev pub decreases-loop-fired : goal.decreases-loop-fired
decreases-loop-fired g l = length l.self.pending.left

abbrev pub invariant-loop-fired : goal.invariant-loop-fired
invariant-loop-fired g l = (x : Fired) → noted_firing l.self x ≡ noted_firing l.fn.self x
