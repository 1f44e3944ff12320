use Rattle.std.proofs.Common.{◌+◌}
use Rattle.chr_term.specs.Size.{size, size_all}
use Rattle.chr_term.specs.TermView.{trees_view, view}
use Rattle.chr_look.proofs.renaming.+greatest.Given as goal

abbrev pub decreases-greatest : goal.decreases-greatest
decreases-greatest g l = size (view l.term.now)

abbrev pub decreases-greatest_of : goal.decreases-greatest_of
decreases-greatest_of g l = size_all (trees_view l.terms.now) + 1
