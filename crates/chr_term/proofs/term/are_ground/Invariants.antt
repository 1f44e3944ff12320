use Rattle.std.proofs.Common.{◌≡◌, drop}
use Rattle.chr_semantics.specs.Tree.{is_ground_trees}
use Rattle.chr_term.specs.TermView.{trees_view}
use Rattle.chr_term.proofs.term.are_ground.Given as goal

abbrev pub invariant-loop-term : goal.invariant-loop-term
invariant-loop-term g l = is_ground_trees (trees_view l.terms) ≡ is_ground_trees (trees_view (drop l.term-index l.terms))
