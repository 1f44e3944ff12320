use Rattle.std.proofs.Common.{◌≡◌, ◌+◌, ◌*◌, [], drop, map}
use Rattle.chr_semantics.specs.Meaning.{in_turn, scope}
use Rattle.chr_term.specs.TermView.{view}
use Rattle.chr_read.specs.SyntaxView.{views}
use Rattle.chr_rules.specs.Grown.{Grows}
use Rattle.chr_rules.specs.Turns.{operands_from, tree_turn}
use Rattle.chr_rules.specs.Weight.{operand_weights, weight, weights}
use Rattle.chr_rules.proofs.trees.+tree.Given as goal

abbrev pub decreases-tree : goal.decreases-tree
decreases-tree g l = 4 * weight l.expr.now

abbrev pub decreases-atom : goal.decreases-atom
decreases-atom g l = 4 * weights l.args.now + 2

abbrev pub decreases-trees : goal.decreases-trees
decreases-trees g l = 4 * weights l.exprs.now + 1

abbrev pub decreases-list : goal.decreases-list
decreases-list g l = 4 * weights l.items.now + 2

abbrev pub decreases-list_with_end : goal.decreases-list_with_end
decreases-list_with_end g l = 4 * weights l.items.now + (4 * weight l.end.now + 2)

abbrev pub decreases-chain : goal.decreases-chain
decreases-chain g l = 4 * operand_weights l.others.now + (4 * weight l.first.now + 2)

abbrev pub invariant-trees-loop-expr : goal.invariant-trees-loop-expr
invariant-trees-loop-expr g l = record {
  same : in_turn tree_turn (scope l.initial.names l.initial.variables, []) (views l.exprs) ≡ in_turn tree_turn (scope l.names l.variables, map view l.trees.items) (views (drop l.expr-index l.exprs));
  grows : Grows l.fn.names l.names;
}

abbrev pub invariant-chain-loop-other : goal.invariant-chain-loop-other
invariant-chain-loop-other g l = record {
  same : operands_from (scope l.initial.names l.initial.variables, view l.initial.whole) l.others ≡ operands_from (scope l.names l.variables, view l.whole) (drop l.other-index l.others);
  grows : Grows l.fn.names l.names;
}
