use Rattle.std.proofs.Common.{◌≡◌, ◌+◌, ◌<◌, suc, length, subst, arith}
use Rattle.chr_map.specs.Order.{Ascends}
use Rattle.chr_map.proofs.Ordered.{ascends_before, ascends_from}
use Rattle.chr_map.proofs.Runs.{run_halved}
use Rattle.chr_map.proofs.span.parted.Goals as goal

pub invariant_of-result : goal.invariant_of-result
invariant_of-result g c =
    let half = c.args.place in
    let lt : half < length c.args.branches.now = omega arith in
    let next : suc half ≡ half + 1 = omega arith in
    ascends_before g.K.Ord.cmp _ _ _ (subst (Ascends g.K.Ord.cmp) (run_halved half (half + 1) c.args.first.now c.args.branches.now c.index-branches-place.result next lt c.index-branches-place.is) c.requires.ascending)

pub invariant_of-result-2 : goal.invariant_of-result-2
invariant_of-result-2 g c =
    let half = c.args.place in
    let lt : half < length c.args.branches.now = omega arith in
    let next : suc half ≡ half + 1 = omega arith in
    (ascends_from g.K.Ord.cmp _ _ _ (subst (Ascends g.K.Ord.cmp) (run_halved half (half + 1) c.args.first.now c.args.branches.now c.index-branches-place.result next lt c.index-branches-place.is) c.requires.ascending)).1

pub returns : goal.returns
returns g c =
    let half = c.args.place in
    let lt : half < length c.args.branches.now = omega arith in
    let next : suc half ≡ half + 1 = omega arith in
    run_halved half (half + 1) c.args.first.now c.args.branches.now c.index-branches-place.result next lt c.index-branches-place.is
