use Rattle.std.proofs.Common.{◌<◌, arith, length}
use Rattle.chr_map.specs.Entries.{subtree_entries}
use Rattle.chr_map.proofs.Changed.{has_last, last_set, put_back_same}
use Rattle.chr_map.proofs.Clauses.{err_holds}
use Rattle.chr_map.proofs.Parts.{spans}
use Rattle.chr_map.proofs.taking.take_top.Goals as goal

pub returns-in_err-last-clause-err : goal.returns-in_err-last-clause-err
returns-in_err-last-clause-err g c =
    err_holds _ _ (put_back_same c.args.node.now c.swap_tree.new.self _ c.args.place _ c.swap_tree.new.tree _ _ c.swap_tree.ensures.swaps c.swap_tree-2.ensures.swaps c.in_err-last.ensures.err)

pub returns-in-Some-clause-ok : goal.returns-in-Some-clause-ok
returns-in-Some-clause-ok g c =
    let n = c.args.node.now in
    let lt : c.args.place < length (spans n).branches.items = omega (arith, (spans n).branches.ok.0) in
    last_set n c.swap_tree.new.self c.swap_tree-2.new.self _ c.args.place _ c.swap_tree.new.tree _ _ (c.in-Some.last.key, c.in-Some.last.value) lt c.swap_tree.ensures.swaps c.swap_tree-2.ensures.swaps
    (has_last (subtree_entries c.swap_tree.new.tree) _ c.in_ok-last.field-0 c.in-Some.last c.in-Some.is c.in_ok-last.ensures.ok) c.set.ensures
