use Rattle.std.proofs.Common.{[], arith, map, subst, sym, unwrap_or}
use Rattle.std.specs.Prelude.{All}
use Rattle.chr_semantics.specs.Match.{fits}
use Rattle.chr_semantics.specs.Step.{goal_instance}
use Rattle.chr_term.proofs.Mapped.{map_pushed}
use Rattle.chr_semantics.specs.Bounds.{IsGoalBelow}
use Rattle.chr_rules.specs.RuleView.{goal_view}
use Rattle.chr_base.specs.Bodies.{rule_in, stands_for}
use Rattle.chr_base.proofs.BodyGoals.{built_elements, built_goals, goal_below}
use Rattle.chr_base.proofs.body.Body.goals.Goals as goal

pub goal-requires : goal.goal-requires
goal-requires g c =
    let all = subst (λ gs. All (IsGoalBelow c.args.self.now.rule.now.vars) (map goal_view gs)) (sym c.deref-goal-items.ensures.value) c.args.self.now.bounded.body in
    let below = goal_below c.args.self.now.rule.now.vars c.deref-goal-items.result.now c.loop-goal.goal-index c.goal-item.result c.loop-goal-test.true c.goal-item.is all in
    below

pub loop-goal-preserved : goal.loop-goal-preserved
loop-goal-preserved g c m a =
    rw c.in_ok-push.ensures.items
    (map_pushed goal_view (λ x. goal_instance (stands_for c.args.self.now m) (goal_view x)) _ _ _ c.goal-item.result _ (c.loop-goal.invariant m a) c.loop-goal-test.true (c.in_ok-goal.ensures m a) c.goal-item.is)

pub returns-clause-goals : goal.returns-clause-goals
returns-clause-goals g c m a =
    built_goals (stands_for c.args.self.now m) c.loop-goal.built.items c.deref-goal-items.result.now c.args.self.now.rule.now.body.items _ c.deref-goal-items.ensures.value (c.loop-goal.invariant m a) c.loop-goal-test.false

pub returns-clause-body : goal.returns-clause-body
returns-clause-body g c rows a =
    let rule = rule_in c.args.self.now in
    let f = stands_for c.args.self.now (unwrap_or (fits rule.heads rows) []) in
    let same = built_goals f c.loop-goal.built.items c.deref-goal-items.result.now c.args.self.now.rule.now.body.items _ c.deref-goal-items.ensures.value (c.loop-goal.invariant _ a) c.loop-goal-test.false in
    built_elements f c.loop-goal.built.items rule.body same
