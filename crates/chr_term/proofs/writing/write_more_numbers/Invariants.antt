use Rattle.std.proofs.Common.{◌≡◌, ◌++◌, drop, map}
use Rattle.chr_semantics.specs.Text.{more_ids_text}
use Rattle.chr_term.specs.Extension.{IsExtension}
use Rattle.chr_term.proofs.writing.write_more_numbers.Given as goal

abbrev pub invariant-loop-item : goal.invariant-loop-item
invariant-loop-item g l = record {
  text : l.initial.out.items ++ more_ids_text (map g.I.Numbered.number l.items) ≡ l.out.items ++ more_ids_text (map g.I.Numbered.number (drop l.item-index l.items));
  kept : IsExtension l.initial.out.items l.out.items;
}
