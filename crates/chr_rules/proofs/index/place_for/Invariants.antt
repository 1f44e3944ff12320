use Rattle.std.proofs.Common.{◌≡◌, ℕ, ◌+◌, ◌-◌, slice_get, vec_len}
use Rattle.chr_rules.specs.Index.{pairs_in}
use Rattle.chr_rules.proofs.index.place_for.Given as goal

abbrev pub invariant-loop-alloc : goal.invariant-loop-alloc
invariant-loop-alloc g l = (f : ℕ) → pairs_in (slice_get l.index.items f) ≡ pairs_in (slice_get l.initial.index.items f)

abbrev pub decreases-loop-alloc : goal.decreases-loop-alloc
decreases-loop-alloc g l = (l.sym.0 + 1) - vec_len l.index
