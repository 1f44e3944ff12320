use Rattle.std.proofs.Common.{◌+◌}
use Rattle.chr_term.specs.Size.{size, size_all}
use Rattle.chr_term.specs.TermView.{trees_view, view}
use Rattle.look_run.proofs.json.Words.+write.Given as goal

abbrev pub decreases-write_arguments : goal.decreases-write_arguments
decreases-write_arguments g l = size_all (trees_view l.terms.now) + 1

abbrev pub decreases-write_elements : goal.decreases-write_elements
decreases-write_elements g l = size (view l.first.now) + size (view l.rest.now) + 1

abbrev pub decreases-write_term : goal.decreases-write_term
decreases-write_term g l = size (view l.term.now)
