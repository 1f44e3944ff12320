use Rattle.std.proofs.Common.{◌≡◌, ◌++◌, ◌-◌, length}
use Rattle.chr_semantics.specs.Text.{lines_text}
use Rattle.chr_term.specs.Extension.{IsExtension}
use Rattle.chr_trace.specs.ScribeView.{bindings_by}
use Rattle.chr_trace.proofs.scribe.Scribe.write_bound.Given as goal

abbrev pub invariant-loop-k : goal.invariant-loop-k
invariant-loop-k g l = record {
  text : l.initial.out.items ++ lines_text (bindings_by l.self 0 (length l.self.var_names.now)) ≡ l.out.items ++ lines_text (bindings_by l.self l.k (length l.self.var_names.now - l.k));
  kept : IsExtension l.initial.out.items l.out.items;
}
