use Rattle.std.proofs.Common.{◌≡◌, ◌+◌, ◌*◌, ◌++◌, drop, flat_map}
use Rattle.chr_semantics.specs.Suspicion.{names_in, names_in_all}
use Rattle.chr_semantics.specs.Syntax.{exprs_of}
use Rattle.chr_read.specs.SyntaxView.{views}
use Rattle.chr_rules.specs.Weight.{operand_weights, weight, weights}
use Rattle.chr_rules.specs.Parts.{operands}
use Rattle.chr_suspicions.specs.Words.{words_of}
use Rattle.chr_suspicions.proofs.names.+names.Given as goal

abbrev pub decreases-push_names : goal.decreases-push_names
decreases-push_names g l = 2 * weight l.expr.now

abbrev pub decreases-push_names_of_all : goal.decreases-push_names_of_all
decreases-push_names_of_all g l = 2 * weights l.exprs.now + 1

abbrev pub decreases-push_names_of_operands : goal.decreases-push_names_of_operands
decreases-push_names_of_operands g l = 2 * operand_weights l.others.now + 1

abbrev pub invariant-push_names_of_all-loop-expr : goal.invariant-push_names_of_all-loop-expr
invariant-push_names_of_all-loop-expr g l =
    words_of l.words.items ++ names_in_all (exprs_of (views (drop l.expr-index l.exprs))) ≡ words_of l.initial.words.items ++ names_in_all (exprs_of (views l.exprs))

abbrev pub invariant-push_names_of_operands-loop-other : goal.invariant-push_names_of_operands-loop-other
invariant-push_names_of_operands-loop-other g l =
    words_of l.words.items ++ flat_map names_in (operands (drop l.other-index l.others)) ≡ words_of l.initial.words.items ++ flat_map names_in (operands l.others)
