use Rattle.chr_rules.specs.ProgramView.{rules_of}
use Rattle.chr_board_tests.proofs.tests.repeats.play.Given as goal

-- the name of the run: this shelf, and the rules of this program
abbrev pub ghosts-play_named : goal.ghosts-play_named
ghosts-play_named g a = record { shelf = a.shelf.now; rules = rules_of a.program.now }
