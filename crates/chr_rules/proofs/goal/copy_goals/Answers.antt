use Rattle.chr_term.proofs.Mapped.{map_pushed}
use Rattle.chr_rules.specs.RuleView.{goal_view}
use Rattle.chr_rules.proofs.goal.copy_goals.Goals as goal

pub loop-goal-preserved : goal.loop-goal-preserved
loop-goal-preserved g c =
    rw c.in_ok-push.ensures.items (map_pushed goal_view goal_view _ _ _ c.goal-item.result _ c.loop-goal.invariant c.loop-goal-test.true c.in_ok-copy_goal.ensures c.goal-item.is)
