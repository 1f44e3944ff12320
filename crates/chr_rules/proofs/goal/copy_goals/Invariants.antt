use Rattle.std.proofs.Common.{◌≡◌, take, map}
use Rattle.chr_rules.specs.RuleView.{goal_view}
use Rattle.chr_rules.proofs.goal.copy_goals.Given as goal

abbrev pub invariant-loop-goal : goal.invariant-loop-goal
invariant-loop-goal g l = map goal_view l.copied.items ≡ map goal_view (take l.goal-index l.goals)
