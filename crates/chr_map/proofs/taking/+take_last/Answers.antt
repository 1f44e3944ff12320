use Rattle.std.proofs.Common.{◌≡◌, ◌∙◌, List, arith, length, subst, sym}
use Rattle.chr_map.specs.Entries.{subtree_entries, node_entries}
use Rattle.chr_map.specs.Taking.{HasLast}
use Rattle.chr_map.proofs.Changed.{has_last, has_none, last_taken, put_back_same}
use Rattle.chr_map.proofs.Clauses.{err_holds}
use Rattle.chr_map.proofs.Parts.{spans}
use Rattle.chr_map.proofs.taking.+take_last.Goals as goal

pub take_last_below-returns-in_err-last-clause-err : goal.take_last_below-returns-in_err-last-clause-err
take_last_below-returns-in_err-last-clause-err g t c =
    err_holds _ _ (put_back_same c.args.node.now c.swap_tree.new.self _ c.len-place.result _ c.swap_tree.new.tree _ _ c.swap_tree.ensures.swaps c.swap_tree-2.ensures.swaps c.in_err-last.ensures.err)

pub take_last_below-returns-in-Some-clause-ok : goal.take_last_below-returns-in-Some-clause-ok
take_last_below-returns-in-Some-clause-ok g t c =
    let n = c.args.node.now in
    let at_last : c.len-place.result ≡ length (spans n).branches.items = omega (arith, (spans n).branches.ok.0) in
    last_taken n c.swap_tree.new.self _ c.len-place.result _ c.swap_tree.new.tree _ _ (c.in-Some.last.key, c.in-Some.last.value) at_last c.swap_tree.ensures.swaps c.swap_tree-2.ensures.swaps
    (has_last (subtree_entries c.swap_tree.new.tree) _ c.in_ok-last.field-0 c.in-Some.last c.in-Some.is c.in_ok-last.ensures.ok)

pub take_last_below-returns-clause-ok : goal.take_last_below-returns-clause-ok
take_last_below-returns-clause-ok g t c =
    let none = has_none (subtree_entries c.swap_tree.new.tree) _ c.in_ok-last.field-0 c.in-None.is c.in_ok-last.ensures.ok in
    let same = put_back_same c.args.node.now c.swap_tree.new.self c.swap_tree-2.new.self c.len-place.result _ c.swap_tree.new.tree _ _ c.swap_tree.ensures.swaps c.swap_tree-2.ensures.swaps (none.1 ∙ sym none.0) in
    subst (λ (es : List _). HasLast es c.pop.result (node_entries c.pop.new.node)) same c.pop.ensures
