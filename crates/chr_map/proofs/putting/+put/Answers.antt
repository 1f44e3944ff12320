use Rattle.std.proofs.Common.{◌<◌, ◌++◌, length, refl, arith}
use Rattle.chr_map.specs.Order.{entry_put, on_first}
use Rattle.chr_map.specs.Places.{entries_at, entries_before, entries_behind}
use Rattle.chr_map.proofs.Between.{put_between, put_first}
use Rattle.chr_map.proofs.Changed.{changed_up, done_between, done_first, put_back_same, branch_set}
use Rattle.chr_map.proofs.Clauses.{err_holds, ok_leads}
use Rattle.chr_map.proofs.Parts.{spans, same_swaps}
use Rattle.chr_map.proofs.putting.+put.Goals as goal

pub put_at-returns-in_err-up-clause-err : goal.put_at-returns-in_err-up-clause-err
put_at-returns-in_err-up-clause-err g t c =
    err_holds _ _ (put_back_same c.args.node.now c.swap_tree.new.self _ c.args.place _ c.swap_tree.new.tree _ _
    (same_swaps c.reserve.new.self c.args.node.now c.reserve.ensures.same c.swap_tree.new.self c.args.place _ c.swap_tree.new.tree c.swap_tree.ensures.swaps) c.swap_tree-2.ensures.swaps c.in_err-up.ensures.err)

pub put_at-returns-clause-ok : goal.put_at-returns-clause-ok
put_at-returns-clause-ok g t c =
    changed_up g.K.Ord.cmp (λ es. entry_put g.K.Ord.cmp es c.args.key.now c.args.value) c.args.node.now c.swap_tree.new.self c.swap_tree-2.new.self _ c.args.place _ c.swap_tree.new.tree _ _ c.in_ok-up.up
    (same_swaps c.reserve.new.self c.args.node.now c.reserve.ensures.same c.swap_tree.new.self c.args.place _ c.swap_tree.new.tree c.swap_tree.ensures.swaps) c.swap_tree-2.ensures.swaps c.in_ok-up.ensures.ok c.add_up.ensures

pub put_below-returns-in-Ok-clause-ok : goal.put_below-returns-in-Ok-clause-ok
put_below-returns-in-Ok-clause-ok g t c =
    let n = c.args.node.now in
    let i = c.in-Ok.place in
    let lt : i < length (spans n).branches.items = omega (arith, c.in-Ok.ensures.branch, (spans n).branches.ok.0) in
    done_first g.K.Ord.cmp n i (λ es. entry_put g.K.Ord.cmp es c.args.key.now c.args.value) (on_first (λ e. (e.0, c.args.value)) (entries_behind n i)) _
    (λ up. put_first g.K.Ord.cmp g.met.K.Ord.total c.args.key.now c.args.value (entries_before n i ++ entries_at n i) (entries_behind n i) up c.in-Ok.ensures.found)
    (branch_set n (λ e. (e.0, c.args.value)) _ i c.index_mut.result.now _ lt c.index_mut.ensures.value refl refl)

pub put_below-returns-in-Err-clause-ok : goal.put_below-returns-in-Err-clause-ok
put_below-returns-in-Err-clause-ok g t c =
    let n = c.args.node.now in
    let i = c.in-Err.place in
    ok_leads _ _ c.put_at.result c.put_at.ensures.ok (done_between g.K.Ord.cmp n i (λ es. entry_put g.K.Ord.cmp es c.args.key.now c.args.value) _
    (λ up. put_between g.K.Ord.cmp g.met.K.Ord.total c.args.key.now c.args.value (entries_before n i) (entries_at n i) (entries_behind n i) up c.in-Err.ensures.above c.in-Err.ensures.below))
