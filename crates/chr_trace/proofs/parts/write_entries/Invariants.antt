use Rattle.std.proofs.Common.{◌≡◌, ◌++◌, drop, map}
use Rattle.chr_semantics.specs.Text.{entry_text, lines_text}
use Rattle.chr_rules.specs.ProgramView.{rules_of}
use Rattle.chr_store.specs.HistoryView.{firings_view}
use Rattle.chr_term.specs.Extension.{IsExtension}
use Rattle.chr_trace.proofs.parts.write_entries.Given as goal

abbrev pub invariant-loop-entry : goal.invariant-loop-entry
invariant-loop-entry g l = record {
  text : l.initial.out.items ++ lines_text (map (entry_text (rules_of l.program)) (firings_view l.history)) ≡ l.out.items ++ lines_text (map (entry_text (rules_of l.program)) (firings_view (drop l.entry-index l.history)));
  kept : IsExtension l.initial.out.items l.out.items;
}
