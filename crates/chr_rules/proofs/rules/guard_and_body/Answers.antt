use Rattle.std.proofs.Common.{◌∙◌, ◌<◌, ◌≤◌, List, [], ap, length, map, option_map, subst, sym}
use Rattle.chr_semantics.specs.Checked.{first_of}
use Rattle.chr_semantics.specs.Meaning.{Scope, goal_from, in_turn, scope, test_from}
use Rattle.chr_semantics.specs.Program.{Goal, Test}
use Rattle.chr_read.specs.SyntaxView.{item_views, rule_view as syntax_rule}
use Rattle.chr_bind.specs.Guards.{test_view}
use Rattle.chr_rules.specs.Checks.{fault_of, guard_and_body_from, too_many}
use Rattle.chr_rules.specs.RuleView.{goal_view}
use Rattle.chr_rules.proofs.Ruled.{both_made, memory_refused, too_many_absent, too_many_there}
use Rattle.chr_rules.proofs.rules.guard_and_body.Goals as goal

pub returns-in_err-guard-clause-refused : goal.returns-in_err-guard-clause-refused
returns-in_err-guard-clause-refused g c =
    memory_refused c.from_residual.result (first_of (too_many (length (guard_and_body_from (scope c.args.names.now c.args.variables.now) (syntax_rule c.args.written.now)).0.variables))) c.from_residual.ensures.1

pub returns-in_err-body-clause-refused : goal.returns-in_err-body-clause-refused
returns-in_err-body-clause-refused g c =
    memory_refused c.from_residual-in_err-body.result (first_of (too_many (length (guard_and_body_from (scope c.args.names.now c.args.variables.now) (syntax_rule c.args.written.now)).0.variables))) c.from_residual-in_err-body.ensures.1

pub returns-then-len-gt-MAX_RULE_VARIABLES-clause-refused : goal.returns-then-len-gt-MAX_RULE_VARIABLES-clause-refused
returns-then-len-gt-MAX_RULE_VARIABLES-clause-refused g c =
    let r = syntax_rule c.args.written.now in
    let here = scope c.args.names.now c.args.variables.now in
    let gs : Scope × List Test = (scope c.tests.new.names c.tests.new.variables, map test_view c.in_ok-guard.guard.items) in
    let bs : Scope × List Goal = (scope c.goals.new.names c.goals.new.variables, map goal_view c.in_ok-body.body.items) in
    let guard = c.in_ok-guard.ensures ∙ ap (λ is. in_turn test_from (here, []) (item_views is)) c.as_slice.ensures.value in
    let body = c.in_ok-body.ensures.goals ∙ ap (λ is. in_turn goal_from (gs.0, []) (item_views is)) c.as_slice-2.ensures.value in
    λ _. ap (λ q. option_map fault_of (first_of (too_many (length q.0.variables)))) (sym (both_made here r gs bs guard body))
    ∙ too_many_there (length c.goals.new.variables) (subst (λ n. 64 < n) c.len.ensures c.if-len-gt-MAX_RULE_VARIABLES.true)

pub returns-clause-made : goal.returns-clause-made
returns-clause-made g c =
    let r = syntax_rule c.args.written.now in
    let here = scope c.args.names.now c.args.variables.now in
    let gs : Scope × List Test = (scope c.tests.new.names c.tests.new.variables, map test_view c.in_ok-guard.guard.items) in
    let bs : Scope × List Goal = (scope c.goals.new.names c.goals.new.variables, map goal_view c.in_ok-body.body.items) in
    both_made here r gs bs
    (c.in_ok-guard.ensures ∙ ap (λ is. in_turn test_from (here, []) (item_views is)) c.as_slice.ensures.value)
    (c.in_ok-body.ensures.goals ∙ ap (λ is. in_turn goal_from (gs.0, []) (item_views is)) c.as_slice-2.ensures.value)

pub returns-clause-few : goal.returns-clause-few
returns-clause-few g c = too_many_absent (length c.goals.new.variables) (subst (λ n. n ≤ 64) c.len.ensures c.if-len-gt-MAX_RULE_VARIABLES.false)
