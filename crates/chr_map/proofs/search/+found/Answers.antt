use Rattle.std.proofs.Common.{◌∙◌, ◌<◌, length, ap, sym, arith}
use Rattle.chr_map.specs.Entries.{subtree_entries, node_entries}
use Rattle.chr_map.proofs.Changed.{found_at_branch, found_in_tree, found_through}
use Rattle.chr_map.proofs.Parts.{spans}
use Rattle.chr_map.proofs.search.+found.Goals as goal

pub returns-in-Ok : goal.returns-in-Ok
returns-in-Ok g t c =
    let n = c.deref-node.result.now in
    let lt : c.in-Ok.place < length (spans n).branches.items = omega (arith, c.in-Ok.ensures.branch, (spans n).branches.ok.0) in
    found_through g.K.Ord.cmp c.args.key.now _ _ _ (ap subtree_entries c.in-Some.is ∙ ap node_entries (sym c.deref-node.ensures))
    (found_at_branch n g.K.Ord.cmp g.met.K.Ord.total c.args.key.now c.in-Ok.place c.index.result.now lt c.index.ensures c.in-Ok.ensures.found)

pub returns-in-Err : goal.returns-in-Err
returns-in-Err g t c =
    let n = c.deref-node.result.now in
    found_through g.K.Ord.cmp c.args.key.now _ _ _ (ap subtree_entries c.in-Some.is ∙ ap node_entries (sym c.deref-node.ensures))
    (found_in_tree n g.K.Ord.cmp g.met.K.Ord.total c.args.key.now c.in-Err.place (subtree_entries c.tree.result.now) _ c.tree.ensures.entries c.in-Err.ensures.above c.in-Err.ensures.below c.found.ensures)
