use Rattle.std.proofs.Common.{◌∙◌, map}
use Rattle.chr_semantics.specs.Meaning.{test_from, scope}
use Rattle.chr_bind.specs.Guards.{test_view}
use Rattle.chr_read.specs.SyntaxView.{item_view}
use Rattle.chr_rules.proofs.Turned.{turn_done}
use Rattle.chr_rules.proofs.goals.tests.Goals as goal

pub loop-item-preserved : goal.loop-item-preserved
loop-item-preserved g c =
    c.loop-item.invariant
    ∙ turn_done test_from item_view (scope c.loop-item.names c.loop-item.variables, map test_view c.loop-item.tests.items) (scope c.add_test.new.names c.add_test.new.variables, map test_view c.add_test.new.tests.items)
    c.args.items.now c.loop-item.item-index c.item-item.result c.loop-item-test.true c.item-item.is c.in_ok-add_test.ensures
