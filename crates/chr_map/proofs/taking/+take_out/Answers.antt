use Rattle.std.proofs.Common.{◌++◌, drop}
use Rattle.chr_map.specs.Order.{entry_removed}
use Rattle.chr_map.specs.Places.{entries_at, entries_before, entries_behind}
use Rattle.chr_map.proofs.Between.{removed_between, removed_first}
use Rattle.chr_map.proofs.Changed.{changed_in_tree, done_between, done_first, put_back_same}
use Rattle.chr_map.proofs.Clauses.{err_leads, if_more, ok_leads}
use Rattle.chr_map.proofs.taking.+take_out.Goals as goal

pub take_below-returns-in-Ok-clause-ok : goal.take_below-returns-in-Ok-clause-ok
take_below-returns-in-Ok-clause-ok g t c =
    let n = c.args.node.now in
    let i = c.in-Ok.place in
    if_more _ _ c.take_top.result c.take_top.ensures.ok (λ rest. done_first g.K.Ord.cmp n i (λ es. entry_removed g.K.Ord.cmp es c.args.key.now) (drop 1 (entries_behind n i)) _
    (λ up. removed_first g.K.Ord.cmp g.met.K.Ord.total c.args.key.now (entries_before n i ++ entries_at n i) (entries_behind n i) up c.in-Ok.ensures.found))

pub take_below-returns-in_ok-take_in-in-Err-clause-ok : goal.take_below-returns-in_ok-take_in-in-Err-clause-ok
take_below-returns-in_ok-take_in-in-Err-clause-ok g t c =
    let n = c.args.node.now in
    let i = c.in-Err.place in
    done_between g.K.Ord.cmp n i (λ es. entry_removed g.K.Ord.cmp es c.args.key.now) _
    (λ up. removed_between g.K.Ord.cmp g.met.K.Ord.total c.args.key.now (entries_before n i) (entries_at n i) (entries_behind n i) up c.in-Err.ensures.above c.in-Err.ensures.below)
    c.in_ok-take_in-in-Err.ensures.ok

pub take_in-returns-clause-ok : goal.take_in-returns-clause-ok
take_in-returns-clause-ok g t c =
    ok_leads _ _ c.take_out-answer.result c.take_out-answer.ensures.ok
    (changed_in_tree g.K.Ord.cmp (λ es. entry_removed g.K.Ord.cmp es c.args.key.now) c.args.node.now c.swap_tree.new.self _ c.args.place _ c.swap_tree.new.tree _ _ c.swap_tree.ensures.swaps c.swap_tree-2.ensures.swaps)

pub take_in-returns-clause-err : goal.take_in-returns-clause-err
take_in-returns-clause-err g t c =
    err_leads _ _ c.take_out-answer.result c.take_out-answer.ensures.err
    (put_back_same c.args.node.now c.swap_tree.new.self _ c.args.place _ c.swap_tree.new.tree _ _ c.swap_tree.ensures.swaps c.swap_tree-2.ensures.swaps)
