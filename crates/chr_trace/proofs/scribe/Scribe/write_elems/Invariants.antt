use Rattle.std.proofs.Common.{◌≡◌, ◌++◌, drop, map}
use Rattle.chr_semantics.specs.Text.{lines_text}
use Rattle.chr_term.specs.Extension.{IsExtension}
use Rattle.chr_trace.specs.ScribeView.{element_by}
use Rattle.chr_trace.specs.State.{stack_view}
use Rattle.chr_trace.proofs.scribe.Scribe.write_elems.Given as goal

abbrev pub invariant-loop-k : goal.invariant-loop-k
invariant-loop-k g l = record {
  text : l.out.items ≡ l.initial.out.items ++ lines_text (map (element_by l.self) (stack_view (drop l.k l.stack)));
  kept : IsExtension l.initial.out.items l.out.items;
}
