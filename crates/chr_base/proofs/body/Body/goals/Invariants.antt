use Rattle.std.proofs.Common.{◌≡◌, map, take}
use Rattle.chr_semantics.specs.Step.{goal_instance}
use Rattle.chr_semantics.specs.Subst.{Subst}
use Rattle.chr_rules.specs.RuleView.{goal_view}
use Rattle.chr_base.specs.Bodies.{IsMatch, stands_for}
use Rattle.chr_base.proofs.body.Body.goals.Given as goal

abbrev pub invariant-loop-goal : goal.invariant-loop-goal
invariant-loop-goal g l =
    (m : Subst) → IsMatch l.self m → map goal_view l.built.items ≡ map (λ g. goal_instance (stands_for l.self m) (goal_view g)) (take l.goal-index l.goal-items)
