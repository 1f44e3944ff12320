use Rattle.std.proofs.Common.{◌+◌}
use Rattle.chr_term.specs.Size.{size, size_all}
use Rattle.chr_term.specs.TermView.{trees_view, view}
use Rattle.chr_look.proofs.hindrances.+bound.Given as goal

abbrev pub decreases-bound : goal.decreases-bound
decreases-bound g l = size (view l.term.now)

abbrev pub decreases-bound_of : goal.decreases-bound_of
decreases-bound_of g l = size_all (trees_view l.terms.now) + 1
