use Rattle.std.proofs.Common.{◌∙◌, map}
use Rattle.chr_semantics.specs.Meaning.{goal_from, scope}
use Rattle.chr_rules.specs.RuleView.{goal_view}
use Rattle.chr_read.specs.SyntaxView.{item_view}
use Rattle.chr_rules.proofs.Grown.{grows_both}
use Rattle.chr_rules.proofs.Turned.{turn_done}
use Rattle.chr_rules.proofs.goals.goals.Goals as goal

pub loop-item-preserved : goal.loop-item-preserved
loop-item-preserved g c = record {
  same = c.loop-item.invariant.same
      ∙ turn_done goal_from item_view (scope c.loop-item.names c.loop-item.variables, map goal_view c.loop-item.goals.items) (scope c.add_goal.new.names c.add_goal.new.variables, map goal_view c.add_goal.new.goals.items)
      c.args.items.now c.loop-item.item-index c.item-item.result c.loop-item-test.true c.item-item.is c.in_ok-add_goal.ensures.goal;
  grows = grows_both _ _ _ c.loop-item.invariant.grows c.add_goal.ensures.grows;
}

pub returns-in_err-add_goal-clause-grows : goal.returns-in_err-add_goal-clause-grows
returns-in_err-add_goal-clause-grows g c = grows_both _ _ _ c.loop-item.invariant.grows c.add_goal.ensures.grows
