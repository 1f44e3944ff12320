use Rattle.chr_rules.specs.ProgramView.{rules_of}
use Rattle.chr_core_tests.proofs.tests.calls.ask.Given as goal

-- the name of the run: this shelf, and the rules of this program
abbrev pub ghosts-ask_named : goal.ghosts-ask_named
ghosts-ask_named g a = record { shelf = a.shelf.now; rules = rules_of a.program.now }
