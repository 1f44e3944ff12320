use Rattle.std.proofs.Common.{◌≡◌, ◌∙◌, List, ap, subst, sym}
use Rattle.chr_semantics.specs.Match as semantics
use Rattle.chr_store.specs.RowsLeft.{rows_left, shown_row}
use Rattle.chr_store.specs.StoreView.{store_view}
use Rattle.chr_store.specs.declared.rows.Rows.{Rows}
use Rattle.chr_store.proofs.SlotRows.{Ascends-rows}
use Rattle.chr_find.specs.TableView.{atom_at}
use Rattle.chr_find.proofs.TakenRows.{IsTaking, taking_all, taking_next, taking_none}
use Rattle.chr_find.proofs.snapshot_taking.add_rows.Goals as goal

pub loop-id-init : goal.loop-id-init
loop-id-init g c =
    let s = c.args.bindings.now.subst in
    let all : List semantics.Row = (store_view c.args.store.now).rows in
    let from : rows_left c.into_iter-id-iterator.result ≡ all = ap (λ (w : Rows g.row.A.Denot). rows_left w) c.into_iter-id-iterator.ensures.into_iter_gives ∙ c.rows-id-items.ensures in
    subst (λ (l : List semantics.Row). IsTaking c.args.scope s all l (atom_at c.args.table.now)) (sym from) (taking_none c.args.scope s 1 _ all (atom_at c.args.table.now) (Ascends-rows 1 c.args.store.now.slots.items.items) c.requires)

pub add_row-requires : goal.add_row-requires
add_row-requires g c =
    let on = subst (λ (l : List semantics.Row). IsTaking c.args.scope c.args.bindings.now.subst (store_view c.args.store.now).rows l (atom_at c.loop-id.table)) c.in-Some.ensures.steps c.loop-id.invariant in
    on.absent c.in-Some.id.0 on.ascends.0

pub loop-id-preserved : goal.loop-id-preserved
loop-id-preserved g c =
    let s = c.args.bindings.now.subst in
    let all : List semantics.Row = (store_view c.args.store.now).rows in
    let on = subst (λ (l : List semantics.Row). IsTaking c.args.scope s all l (atom_at c.loop-id.table)) c.in-Some.ensures.steps c.loop-id.invariant in
    taking_next c.args.scope s all (rows_left c.next.new.self) (shown_row (c.in-Some.id, c.in-Some.row)) (atom_at c.loop-id.table) (atom_at c.add_row.new.table) on c.in_ok-add_row.ensures

pub returns : goal.returns
returns g c =
    let s = c.args.bindings.now.subst in
    let all : List semantics.Row = (store_view c.args.store.now).rows in
    let on = subst (λ (l : List semantics.Row). IsTaking c.args.scope s all l (atom_at c.loop-id.table)) c.in-None.ensures.steps.0 c.loop-id.invariant in
    taking_all c.args.scope s all (atom_at c.loop-id.table) on
