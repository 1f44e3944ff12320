use Rattle.std.proofs.Common.{◌∙◌, ◌<◌, length, arith}
use Rattle.chr_map.proofs.Changed.{resized, branch_taken}
use Rattle.chr_map.proofs.Parts.{spans}
use Rattle.chr_map.proofs.node.Node.take_branch.Goals as goal

pub returns : goal.returns
returns g c =
    let n = spans c.args.self.now in
    let lt : c.args.place < length n.branches.items = omega (arith, n.branches.ok.0) in
    resized _ _ ∙ branch_taken c.args.self.now _ c.args.place c.remove-branch.new.self c.remove-branch.result c.swap_tree.new.self _ lt c.remove-branch.ensures.value c.remove-branch.ensures.items c.swap_tree.ensures.swaps
