use Rattle.std.proofs.Common.{◌≡◌, ◌+◌, ◌-◌, length, ℕ}
use Rattle.chr_look.specs.CostView.{cost_in}
use Rattle.chr_look.proofs.costs.grow_rows.Given as goal

abbrev pub invariant-loop-alloc : goal.invariant-loop-alloc
invariant-loop-alloc g l = (r k : ℕ) → cost_in l.heads.items r k ≡ cost_in l.fn.heads.items r k

abbrev pub decreases-loop-alloc : goal.decreases-loop-alloc
decreases-loop-alloc g l = l.rule + 1 - length l.heads.items
