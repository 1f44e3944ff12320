use Rattle.std.proofs.Common.{◌≡◌, [], drop, map}
use Rattle.chr_semantics.specs.Meaning.{test_from, in_turn, scope}
use Rattle.chr_bind.specs.Guards.{test_view}
use Rattle.chr_read.specs.SyntaxView.{item_views}
use Rattle.chr_rules.proofs.goals.tests.Given as goal

abbrev pub invariant-loop-item : goal.invariant-loop-item
invariant-loop-item g l =
    in_turn test_from (scope l.initial.names l.initial.variables, []) (item_views l.items) ≡ in_turn test_from (scope l.names l.variables, map test_view l.tests.items) (item_views (drop l.item-index l.items))
