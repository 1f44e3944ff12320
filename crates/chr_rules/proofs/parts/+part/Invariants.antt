use Rattle.std.proofs.Common.{◌≡◌, ◌+◌, ◌*◌, drop}
use Rattle.std.specs.List.{list_any}
use Rattle.chr_semantics.specs.Syntax.{exprs_of}
use Rattle.chr_read.specs.SyntaxView.{views}
use Rattle.chr_rules.specs.Parts.{has_sought, have_sought, operands}
use Rattle.chr_rules.specs.Weight.{operand_weights, weight, weights}
use Rattle.chr_rules.proofs.parts.+part.Given as goal

abbrev pub decreases-has_sought : goal.decreases-has_sought
decreases-has_sought g l = 2 * weight l.expr.now

abbrev pub decreases-have_sought : goal.decreases-have_sought
decreases-have_sought g l = 2 * weights l.exprs.now + 1

abbrev pub decreases-operands_have_sought : goal.decreases-operands_have_sought
decreases-operands_have_sought g l = 2 * operand_weights l.others.now + 1

abbrev pub invariant-have_sought-loop-expr : goal.invariant-have_sought-loop-expr
invariant-have_sought-loop-expr g l = have_sought l.sought (exprs_of (views l.exprs)) ≡ have_sought l.sought (exprs_of (views (drop l.expr-index l.exprs)))

abbrev pub invariant-operands_have_sought-loop-other : goal.invariant-operands_have_sought-loop-other
invariant-operands_have_sought-loop-other g l = list_any (has_sought l.sought) (operands l.others) ≡ list_any (has_sought l.sought) (operands (drop l.other-index l.others))
