use Rattle.std.proofs.Common.{◌≡◌, drop, map}
use Rattle.chr_semantics.specs.Suspicion.{is_made_again}
use Rattle.chr_term.specs.TermView.{atom_view}
use Rattle.chr_rules.specs.RuleView.{goal_view}
use Rattle.chr_suspicions.proofs.bodies.is_made_again.Given as goal

abbrev pub invariant-loop-goal : goal.invariant-loop-goal
invariant-loop-goal g l = is_made_again (map goal_view l.goals) (atom_view l.sym l.args) ≡ is_made_again (map goal_view (drop l.goal-index l.goals)) (atom_view l.sym l.args)
