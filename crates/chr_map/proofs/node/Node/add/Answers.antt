use Rattle.std.proofs.Common.{◌∙◌, ◌≤◌, length, arith}
use Rattle.chr_map.proofs.Changed.{resized, branch_added}
use Rattle.chr_map.proofs.Clauses.{ok_since}
use Rattle.chr_map.proofs.Parts.{spans}
use Rattle.chr_map.proofs.node.Node.add.Goals as goal

pub returns : goal.returns
returns g c =
    let n = spans c.args.self.now in
    let le : c.args.place ≤ length n.branches.items = omega (arith, n.branches.ok.0) in
    let fine = ok_since _ c.insert.result c.insert.ensures.full (λ h. omega arith) in
    resized _ _ ∙ branch_added c.args.self.now _ c.args.place c.insert.new.self c.args.branch le (c.insert.ensures.items ∙ rw fine)
