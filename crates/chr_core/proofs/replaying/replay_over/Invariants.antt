use Rattle.chr_rules.specs.ProgramView.{rules_of}
use Rattle.chr_core.proofs.replaying.replay_over.Given as goal

-- the name of the run: this shelf, and the rules of this program
abbrev pub ghosts-replay_named : goal.ghosts-replay_named
ghosts-replay_named g a = record { shelf = a.shelf.now; rules = rules_of a.program.now }
