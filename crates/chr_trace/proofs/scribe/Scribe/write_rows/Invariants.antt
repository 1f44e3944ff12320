use Rattle.std.proofs.Common.{◌≡◌, ◌++◌}
use Rattle.chr_semantics.specs.Text.{lines_text}
use Rattle.chr_store.specs.RowsLeft.{rows_left}
use Rattle.chr_store.specs.StoreView.{store_view}
use Rattle.chr_term.specs.Extension.{IsExtension}
use Rattle.chr_trace.specs.ScribeView.{rows_by}
use Rattle.chr_trace.proofs.scribe.Scribe.write_rows.Given as goal

abbrev pub invariant-loop-id : goal.invariant-loop-id
invariant-loop-id g l = record {
  text : l.initial.out.items ++ lines_text (rows_by l.self (store_view l.store).rows) ≡ l.out.items ++ lines_text (rows_by l.self (rows_left l.id-iterator));
  kept : IsExtension l.initial.out.items l.out.items;
}
