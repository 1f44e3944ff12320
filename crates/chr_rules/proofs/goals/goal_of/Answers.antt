use Rattle.std.proofs.Common.{◌∙◌, [], ◌∷◌, ap, length, sym}
use Rattle.chr_semantics.specs.Meaning.{scope}
use Rattle.chr_semantics.specs.Program.{constraint}
use Rattle.chr_semantics.specs.Syntax.{exprs_of}
use Rattle.chr_term.specs.TermView.{atom_over}
use Rattle.chr_read.specs.SyntaxView.{views}
use Rattle.chr_rules.proofs.Called.{goal_called, goal_failing, goal_left_out}
use Rattle.chr_rules.proofs.Within.{count_views}
use Rattle.chr_rules.proofs.goals.goal_of.Goals as goal

pub returns-then-is_test-clause-goal : goal.returns-then-is_test-clause-goal
returns-then-is_test-clause-goal g c =
    sym (goal_left_out (scope c.args.names.now c.args.variables.now) c.args.name.now (exprs_of (views c.args.args.now)) (length c.args.args.now) (sym (count_views c.args.args.now)) c.if-is_test.ensures)

pub returns-then-is_fail-clause-goal : goal.returns-then-is_fail-clause-goal
returns-then-is_fail-clause-goal g c =
    sym (goal_failing (scope c.args.names.now c.args.variables.now) c.args.name.now (exprs_of (views c.args.args.now)) (length c.args.args.now) (sym (count_views c.args.args.now)) c.if-is_test.ensures c.if-is_fail.ensures)

pub returns-clause-goal : goal.returns-clause-goal
returns-clause-goal g c =
    let after = scope c.atom.new.names c.atom.new.variables in
    ap (λ ts. (after, constraint (atom_over c.in_ok-sym.sym ts) ∷ [])) c.in_ok-new.ensures
    ∙ ap (λ a. (a.0, constraint a.1 ∷ [])) c.in_ok-sym.ensures.atom
    ∙ sym (goal_called (scope c.args.names.now c.args.variables.now) c.args.name.now (exprs_of (views c.args.args.now)) (length c.args.args.now) (sym (count_views c.args.args.now)) c.if-is_test.ensures c.if-is_fail.ensures)
