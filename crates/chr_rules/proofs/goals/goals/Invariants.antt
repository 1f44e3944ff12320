use Rattle.std.proofs.Common.{◌≡◌, [], drop, map}
use Rattle.chr_semantics.specs.Meaning.{goal_from, in_turn, scope}
use Rattle.chr_rules.specs.Grown.{Grows}
use Rattle.chr_rules.specs.RuleView.{goal_view}
use Rattle.chr_read.specs.SyntaxView.{item_views}
use Rattle.chr_rules.proofs.goals.goals.Given as goal

abbrev pub invariant-loop-item : goal.invariant-loop-item
invariant-loop-item g l = record {
  same : in_turn goal_from (scope l.initial.names l.initial.variables, []) (item_views l.items) ≡ in_turn goal_from (scope l.names l.variables, map goal_view l.goals.items) (item_views (drop l.item-index l.items));
  grows : Grows l.fn.names l.names;
}
