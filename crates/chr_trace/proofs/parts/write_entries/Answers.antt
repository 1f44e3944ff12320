use Rattle.std.proofs.Common.{◌∙◌, ◌∷◌, List, [], map, refl}
use Rattle.chr_rules.specs.ProgramView.{rules_of}
use Rattle.chr_semantics.specs.Text.{entry_text}
use Rattle.chr_store.specs.HistoryView.{fired_view, firings_view}
use Rattle.chr_store.specs.declared.fired.Fired.{Fired}
use Rattle.chr_term.proofs.Extensions.{extended_on}
use Rattle.chr_trace.proofs.LineLists.{lines-more}
use Rattle.chr_trace.proofs.Written.{both_written}
use Rattle.chr_trace.proofs.parts.write_entries.Goals as goal

pub loop-entry-preserved : goal.loop-entry-preserved
loop-entry-preserved g c =
    let rules = rules_of c.args.program.now in
    let text = entry_text rules (fired_view c.entry-item.result) in
    let written = both_written c.loop-entry.out.items c.write_entry.new.out.items c.write_byte.new.out.items text (10 ∷ []) c.in_ok-write_entry.ensures.ok c.in_ok-write_byte.ensures.ok in
    record {
      text = c.loop-entry.invariant.text ∙ lines-more (λ (fs : List Fired). map (entry_text rules) (firings_view fs)) (λ (f : Fired). entry_text rules (fired_view f)) (λ z zs. refl) c.args.history.now c.loop-entry.entry-index c.entry-item.result _ _ c.loop-entry-test.true c.entry-item.is written;
      kept = extended_on _ _ _ c.loop-entry.invariant.kept (extended_on _ _ _ c.in_ok-write_entry.ensures.kept c.in_ok-write_byte.ensures.kept);
    }

pub returns-in_err-write_byte-clause-kept : goal.returns-in_err-write_byte-clause-kept
returns-in_err-write_byte-clause-kept g c = extended_on _ _ _ c.loop-entry.invariant.kept (extended_on _ _ _ c.in_ok-write_entry.ensures.kept c.in_err-write_byte.ensures.kept)
