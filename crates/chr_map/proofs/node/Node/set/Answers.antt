use Rattle.std.proofs.Common.{◌<◌, length, refl, arith}
use Rattle.chr_map.proofs.Changed.{branch_set}
use Rattle.chr_map.proofs.Parts.{spans}
use Rattle.chr_map.proofs.node.Node.set.Goals as goal

pub returns : goal.returns
returns g c =
    let n = spans c.args.self.now in
    let lt : c.args.place < length n.branches.items = omega (arith, n.branches.ok.0) in
    branch_set c.args.self.now (λ _. (c.args.key, c.args.value)) _ c.args.place c.index_mut-branch.result.now _ lt c.index_mut-branch.ensures.value refl refl
