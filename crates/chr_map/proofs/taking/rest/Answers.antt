use Rattle.std.proofs.Common.{◌∙◌, ◌≡◌, ap, arith, length, sym}
use Rattle.chr_map.specs.Entries.{subtree_entries}
use Rattle.chr_map.proofs.Changed.{no_branches}
use Rattle.chr_map.proofs.Parts.{spans}
use Rattle.chr_map.proofs.Runs.{zero_of}
use Rattle.chr_map.proofs.taking.rest.Goals as goal

pub returns-then-is_empty : goal.returns-then-is_empty
returns-then-is_empty g c =
    let n = spans c.args.node.now in
    let z = zero_of _ c.is_empty.result c.if-is_empty.true c.is_empty.ensures in
    let none : length n.branches.items ≡ 0 = omega (arith, n.branches.ok.0) in
    ap subtree_entries c.replace.ensures.value ∙ sym (no_branches c.args.node.now none)
