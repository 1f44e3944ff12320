use Rattle.std.proofs.Common.{◌≡◌, None, subst, sym}
use Rattle.std.specs.Prelude.{IfErr, IfOk}
use Rattle.chr_read.specs.SyntaxView.{rule_view as syntax_rule}
use Rattle.chr_rules.specs.Checks.{IsFault}
use Rattle.chr_rules.specs.RuleView.{rules_view}
use Rattle.chr_rules.proofs.Ruled.{error_beside_items}
use Rattle.chr_rules.proofs.rules.rule.Goals as goal

pub returns-clause-accepted : goal.returns-clause-accepted
returns-clause-accepted g c =
    let items = error_beside_items c.args.names.now c.args.declared (rules_view c.args.earlier.now) (syntax_rule c.args.written.now) c.in_default.ensures in
    subst (λ m. IfOk c.rule_beside_items.result (λ _. m ≡ None)) (sym items) c.rule_beside_items.ensures.accepted

pub returns-clause-refused : goal.returns-clause-refused
returns-clause-refused g c =
    let items = error_beside_items c.args.names.now c.args.declared (rules_view c.args.earlier.now) (syntax_rule c.args.written.now) c.in_default.ensures in
    subst (λ m. IfErr c.rule_beside_items.result (λ fault. IsFault fault m)) (sym items) c.rule_beside_items.ensures.refused
