use Rattle.std.proofs.Common.{◌∙◌, sym}
use Rattle.std.specs.Prelude.{codes}
use Rattle.std.proofs.lemmas.List.{length-map}
use Rattle.chr_rules.specs.ProgramView.{rules_of}
use Rattle.chr_semantics.specs.Text.{entry_text}
use Rattle.chr_store.specs.HistoryView.{fired_view, firings_view}
use Rattle.chr_trace.proofs.Bodies.{part_written}
use Rattle.chr_trace.proofs.parts.write_history.Goals as goal

pub returns-clause-ok : goal.returns-clause-ok
returns-clause-ok g c =
    part_written c.write_entries.result c.args.out.now.items c.write_head.new.out.items c.write_entries.new.out.items (codes "history ") _ _ c.in_ok-write_head.ensures.ok c.write_entries.ensures.ok
    (sym (length-map c.args.history.now fired_view) ∙ sym (length-map (firings_view c.args.history.now) (entry_text (rules_of c.args.program.now))))
