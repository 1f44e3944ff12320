use Rattle.std.proofs.Common.{take}
use Rattle.chr_term.specs.TermView.{trees_view}
use Rattle.chr_term.specs.Extension.{IsExtension}
use Rattle.chr_bind.specs.Renamed.{AreRenamed, IsNames}
use Rattle.chr_bind.proofs.renaming.+renumber.Given as goal

abbrev pub invariant-renumber_all-loop-term : goal.invariant-renumber_all-loop-term
invariant-renumber_all-loop-term g l =
    IsNames l.numbers.keys × IsExtension l.initial.numbers.keys l.numbers.keys × AreRenamed l.numbers.keys (trees_view l.items.items) (trees_view (take l.term-index l.terms))
