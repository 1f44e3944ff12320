use Rattle.chr_store.specs.RowsLeft.{rows_left}
use Rattle.chr_store.specs.StoreView.{store_view}
use Rattle.chr_find.specs.TableView.{atom_at}
use Rattle.chr_find.proofs.TakenRows.{IsTaking}
use Rattle.chr_find.proofs.snapshot_taking.add_rows.Given as goal

abbrev pub invariant-loop-id : goal.invariant-loop-id
invariant-loop-id g l =
    IsTaking l.scope l.bindings.subst (store_view l.store).rows (rows_left l.id-iterator) (atom_at l.table)
