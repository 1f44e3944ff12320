use Rattle.chr_rules.specs.ProgramView.{rules_of}
use Rattle.chr_run.proofs.running.run_job.Given as goal

-- the name of the run: its shelf, and the rules of its program
abbrev pub ghosts-run_named : goal.ghosts-run_named
ghosts-run_named g a = record { shelf = a.shelf; rules = rules_of a.job.program.now }
