use Rattle.std.proofs.Common.{◌≤◌, ◌-◌, length}
use Rattle.std.specs.declared.cmp.Ordering.TheVariants.{Less}
use Rattle.chr_map.specs.Places.{Compares, IsGreater}
use Rattle.chr_map.proofs.search.place_among.Given as goal

abbrev pub invariant-loop-low : goal.invariant-loop-low
invariant-loop-low g l = record {
  in_order : l.low ≤ l.high;
  inside : l.high ≤ length l.branches.items;
  greater : IsGreater g.K.Ord.cmp l.key l.branches.items l.low;
  less : Compares g.K.Ord.cmp l.key Less l.branches.items l.high;
}

abbrev pub decreases-loop-low : goal.decreases-loop-low
decreases-loop-low g l = l.high - l.low
