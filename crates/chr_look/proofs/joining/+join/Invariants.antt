use Rattle.std.proofs.Common.{◌+◌}
use Rattle.chr_term.specs.Size.{size, size_all}
use Rattle.chr_term.specs.TermView.{trees_view, view}
use Rattle.chr_look.proofs.joining.+join.Given as goal

abbrev pub decreases-join_terms : goal.decreases-join_terms
decreases-join_terms g l = size (view l.left.now)

abbrev pub decreases-join_arguments : goal.decreases-join_arguments
decreases-join_arguments g l = size_all (trees_view l.lefts.now) + 1
