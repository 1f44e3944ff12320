use Rattle.std.proofs.Common.{◌<◌, ◌++◌, length, ap, refl, arith}
use Rattle.chr_map.specs.Order.{entry_edited, on_first}
use Rattle.chr_map.specs.Places.{entries_at, entries_before, entries_behind}
use Rattle.chr_map.proofs.Between.{edited_between, edited_first}
use Rattle.chr_map.proofs.Changed.{changed_in_tree, done_between, done_first, put_back_same, branch_same, branch_set}
use Rattle.chr_map.proofs.Clauses.{err_leads, ok_leads}
use Rattle.chr_map.proofs.Parts.{spans}
use Rattle.chr_map.proofs.editing.+edit_at.Goals as goal

pub edit_below-returns-in-Ok-clause-ok : goal.edit_below-returns-in-Ok-clause-ok
edit_below-returns-in-Ok-clause-ok g t c =
    let n = c.args.node.now in
    let i = c.in-Ok.place in
    let f = g.E.Edit.edited c.args.edit.now in
    let x = c.index_mut.result.now in
    let lt : i < length (spans n).branches.items = omega (arith, c.in-Ok.ensures.branch, (spans n).branches.ok.0) in
    ok_leads _ _ c.edit.result c.edit.ensures.ok (λ h. done_first g.K.Ord.cmp n i (λ es. entry_edited g.K.Ord.cmp f es c.args.key.now) (on_first (λ e. (e.0, f e.1)) (entries_behind n i)) _
    (λ up. edited_first g.K.Ord.cmp g.met.K.Ord.total c.args.key.now f (entries_before n i ++ entries_at n i) (entries_behind n i) up c.in-Ok.ensures.found)
    (branch_set n (λ e. (e.0, f e.1)) _ i x _ lt c.index_mut.ensures.value (ap (λ v. (x.key, v)) h) refl))

pub edit_below-returns-in-Ok-clause-err : goal.edit_below-returns-in-Ok-clause-err
edit_below-returns-in-Ok-clause-err g t c =
    let n = c.args.node.now in
    let i = c.in-Ok.place in
    let x = c.index_mut.result.now in
    let lt : i < length (spans n).branches.items = omega (arith, c.in-Ok.ensures.branch, (spans n).branches.ok.0) in
    err_leads _ _ c.edit.result c.edit.ensures.err (λ h. branch_same n _ i x _ lt c.index_mut.ensures.value (ap (λ v. (x.key, v)) h) refl)

pub edit_below-returns-in-Err-clause-ok : goal.edit_below-returns-in-Err-clause-ok
edit_below-returns-in-Err-clause-ok g t c =
    let n = c.args.node.now in
    let i = c.in-Err.place in
    let f = g.E.Edit.edited c.args.edit.now in
    ok_leads _ _ c.edit_in.result c.edit_in.ensures.ok (done_between g.K.Ord.cmp n i (λ es. entry_edited g.K.Ord.cmp f es c.args.key.now) _
    (λ up. edited_between g.K.Ord.cmp g.met.K.Ord.total c.args.key.now f (entries_before n i) (entries_at n i) (entries_behind n i) up c.in-Err.ensures.above c.in-Err.ensures.below))

pub edit_in-returns-clause-ok : goal.edit_in-returns-clause-ok
edit_in-returns-clause-ok g t c =
    ok_leads _ _ c.edit_at-answer.result c.edit_at-answer.ensures.ok
    (changed_in_tree g.K.Ord.cmp (λ es. entry_edited g.K.Ord.cmp (g.E.Edit.edited c.args.edit.now) es c.args.key.now) c.args.node.now c.swap_tree.new.self _ c.args.place _ c.swap_tree.new.tree _ _ c.swap_tree.ensures.swaps c.swap_tree-2.ensures.swaps)

pub edit_in-returns-clause-err : goal.edit_in-returns-clause-err
edit_in-returns-clause-err g t c =
    err_leads _ _ c.edit_at-answer.result c.edit_at-answer.ensures.err
    (put_back_same c.args.node.now c.swap_tree.new.self _ c.args.place _ c.swap_tree.new.tree _ _ c.swap_tree.ensures.swaps c.swap_tree-2.ensures.swaps)
