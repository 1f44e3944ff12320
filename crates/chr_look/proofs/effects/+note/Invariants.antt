use Rattle.std.proofs.Common.{◌+◌}
use Rattle.chr_term.specs.Size.{size, size_all}
use Rattle.chr_term.specs.TermView.{trees_view, view}
use Rattle.chr_look.proofs.effects.+note.Given as goal

abbrev pub decreases-note_variables : goal.decreases-note_variables
decreases-note_variables g l = size (view l.term.now)

abbrev pub decreases-note_all_variables : goal.decreases-note_all_variables
decreases-note_all_variables g l = size_all (trees_view l.terms.now) + 1
