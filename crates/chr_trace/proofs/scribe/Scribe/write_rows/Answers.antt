use Rattle.std.proofs.Common.{◌≡◌, ◌∙◌, ◌++◌, ◌∷◌, List, [], ap, sym}
use Rattle.chr_semantics.specs.Match as semantics
use Rattle.chr_semantics.specs.Text.{lines_text}
use Rattle.chr_store.specs.RowsLeft.{rows_left}
use Rattle.chr_store.specs.StoreView.{store_view}
use Rattle.chr_store.specs.declared.rows.Rows.{Rows}
use Rattle.chr_term.specs.declared.term.Term.{Term}
use Rattle.chr_term.proofs.Extensions.{extended_on}
use Rattle.chr_trace.specs.ScribeView.{known_by, rows_by, shown_atom}
use Rattle.chr_trace.proofs.Bodies.{line_moved}
use Rattle.chr_trace.proofs.Written.{both_written, not_written}
use Rattle.chr_trace.proofs.scribe.Scribe.write_rows.Goals as goal

pub loop-id-init : goal.loop-id-init
loop-id-init g c =
    let from : rows_left c.into_iter-id-iterator.result ≡ (store_view c.args.store.now).rows = ap (λ (w : Rows g.row.A.Denot). rows_left w) c.into_iter-id-iterator.ensures.into_iter_gives ∙ c.rows-id-items.ensures in
    record { text = ap (λ (rows : List semantics.Row). c.args.out.now.items ++ lines_text (rows_by c.args.self.now rows)) (sym from); kept = not_written _ }

pub loop-id-preserved : goal.loop-id-preserved
loop-id-preserved g c =
    let w = c.args.self.now in
    let line = known_by w (shown_atom w c.in-Some.row.now.sym c.in-Some.row.now.args) c.in-Some.id.0 in
    let known = c.in_ok-write_known.ensures.ok in
    let written = both_written c.loop-id.out.items c.write_known.new.out.items c.write_byte.new.out.items line (10 ∷ []) known c.in_ok-write_byte.ensures.ok in
    record {
      text = c.loop-id.invariant.text ∙ (ap (λ (rows : List semantics.Row). c.loop-id.out.items ++ lines_text (rows_by w rows)) c.in-Some.ensures.steps ∙ line_moved _ _ line (rows_by w (rows_left c.next.new.self)) written);
      kept = extended_on _ _ _ c.loop-id.invariant.kept (extended_on _ _ _ c.in_ok-write_known.ensures.kept c.in_ok-write_byte.ensures.kept);
    }

pub returns-in_err-write_byte-clause-kept : goal.returns-in_err-write_byte-clause-kept
returns-in_err-write_byte-clause-kept g c =
    extended_on _ _ _ c.loop-id.invariant.kept (extended_on _ _ _ c.in_ok-write_known.ensures.kept c.in_err-write_byte.ensures.kept)
