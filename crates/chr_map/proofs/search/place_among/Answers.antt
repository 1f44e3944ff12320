use Rattle.std.proofs.Common.{◌≡◌, ◌∙◌, ℕ, suc, ◌+◌, ◌-◌, ◌/◌, ◌<◌, length, subst, sym, arith}
use Rattle.std.specs.declared.cmp.Ordering.TheVariants.{Less, Equal, Greater}
use Rattle.chr_map.specs.Places.{Compares, IsGreater}
use Rattle.chr_map.proofs.Runs.{compares_at, compares_end}
use Rattle.chr_map.proofs.search.place_among.Goals as goal

pub loop-low-init : goal.loop-low-init
loop-low-init g c =
    let end : length c.args.branches.now.items ≡ c.len-high.result = omega (arith, c.args.branches.now.ok.0) in
    record {
      in_order = omega arith;
      inside = omega arith;
      greater = tt;
      less = subst (λ (n : ℕ). Compares g.K.Ord.cmp c.args.key.now Less c.args.branches.now.items n) end (compares_end g.K.Ord.cmp c.args.key.now Less c.args.branches.now.items);
    }

pub loop-low-preserved-in-Less : goal.loop-low-preserved-in-Less
loop-low-preserved-in-Less g c =
    let m = c.loop-low.low + (c.loop-low.high - c.loop-low.low) / 2 in
    let lt : m < length c.args.branches.now.items = omega arith in
    record {
      in_order = omega arith;
      inside = omega arith;
      greater = c.loop-low.invariant.greater;
      less = compares_at g.K.Ord.cmp c.args.key.now Less m c.args.branches.now.items c.index.result.now lt c.index.ensures (sym c.cmp.ensures ∙ c.in-Less.is);
    }

pub returns-in-Equal-clause-found : goal.returns-in-Equal-clause-found
returns-in-Equal-clause-found g c =
    let m = c.loop-low.low + (c.loop-low.high - c.loop-low.low) / 2 in
    let lt : m < length c.args.branches.now.items = omega arith in
    record {
      inside = lt;
      here = compares_at g.K.Ord.cmp c.args.key.now Equal m c.args.branches.now.items c.index.result.now lt c.index.ensures (sym c.cmp.ensures ∙ c.in-Equal.is);
    }

pub loop-low-preserved : goal.loop-low-preserved
loop-low-preserved g c =
    let m = c.loop-low.low + (c.loop-low.high - c.loop-low.low) / 2 in
    let lt : m < length c.args.branches.now.items = omega arith in
    let next : suc m ≡ m + 1 = omega arith in
    record {
      in_order = omega arith;
      inside = omega arith;
      greater = subst (λ (n : ℕ). IsGreater g.K.Ord.cmp c.args.key.now c.args.branches.now.items n) next
          (compares_at g.K.Ord.cmp c.args.key.now Greater m c.args.branches.now.items c.index.result.now lt c.index.ensures (sym c.cmp.ensures ∙ c.in-Greater.is));
      less = c.loop-low.invariant.less;
    }
