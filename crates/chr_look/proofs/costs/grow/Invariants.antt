use Rattle.std.proofs.Common.{◌≡◌, ◌+◌, ◌-◌, get_or, length, ℕ}
use Rattle.chr_look.proofs.costs.grow.Given as goal

abbrev pub invariant-loop-value : goal.invariant-loop-value
invariant-loop-value g l = (k : ℕ) → get_or l.values.items k l.value ≡ get_or l.fn.values.items k l.value

abbrev pub decreases-loop-value : goal.decreases-loop-value
decreases-loop-value g l = l.place + 1 - length l.values.items
