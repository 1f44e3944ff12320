use Rattle.std.proofs.Common.{◌↔◌, drop}
use Rattle.chr_term.specs.TermView.{trees_view}
use Rattle.chr_semantics.specs.Bounds.{AreBelow}
use Rattle.chr_bind.proofs.below.+below.Given as goal

abbrev pub invariant-are_below-loop-term : goal.invariant-are_below-loop-term
invariant-are_below-loop-term g l = AreBelow l.bound (trees_view l.terms) ↔ AreBelow l.bound (trees_view (drop l.term-index l.terms))
