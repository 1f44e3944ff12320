use Rattle.std.proofs.Common.{◌-◌, ◌<◌, length, refl, arith}
use Rattle.chr_map.proofs.Changed.{swapped_first, swapped_branch}
use Rattle.chr_map.proofs.Parts.{spans, rolled_room}
use Rattle.chr_map.proofs.Runs.{place_is}
use Rattle.chr_map.proofs.node.Node.exchange.Goals as goal

pub returns-then-place-eq0-clause-swaps : goal.returns-then-place-eq0-clause-swaps
returns-then-place-eq0-clause-swaps g c = swapped_first c.args.self.now _ c.args.place c.args.tree.now _ _ c.if-place-eq0.true c.swap.ensures.x_after c.swap.ensures.y_after

pub returns-else-place-eq0-clause-swaps : goal.returns-else-place-eq0-clause-swaps
returns-else-place-eq0-clause-swaps g c =
    let n = spans c.args.self.now in
    let lt : c.args.place - 1 < length n.branches.items = omega (arith, n.branches.ok.0) in
    swapped_branch c.args.self.now _ c.args.place (c.args.place - 1) c.args.tree.now _ c.index_mut.result.now _ (place_is c.args.place c.if-place-eq0.false) lt c.index_mut.ensures.value refl c.swap-else-place-eq0.ensures.x_after c.swap-else-place-eq0.ensures.y_after

pub returns-then-place-eq0-clause-room : goal.returns-then-place-eq0-clause-room
returns-then-place-eq0-clause-room g c = rolled_room _

pub returns-else-place-eq0-clause-room : goal.returns-else-place-eq0-clause-room
returns-else-place-eq0-clause-room g c = rolled_room _
