use Rattle.std.proofs.Common.{◌∙◌, ap, option_map, sym}
use Rattle.chr_read.specs.SyntaxView.{rule_view as syntax_rule}
use Rattle.chr_rules.specs.Checks.{fault_of, wrong_number_or_arrow, wrong_parts}
use Rattle.chr_rules.specs.RuleView.{rules_view}
use Rattle.chr_rules.proofs.Ruled.{first_of_both, second_of_both}
use Rattle.chr_rules.proofs.rules.wrong_rule.Goals as goal

pub returns-in-Some : goal.returns-in-Some
returns-in-Some g c =
    let earlier = rules_view c.args.earlier.now in
    let r = syntax_rule c.args.rule.now in
    sym (first_of_both (wrong_parts c.args.variables.now earlier r) (wrong_number_or_arrow earlier r) c.in-Some.fault c.in-Some.ensures)

pub returns : goal.returns
returns g c =
    let earlier = rules_view c.args.earlier.now in
    let r = syntax_rule c.args.rule.now in
    c.wrong_number_or_arrow.ensures ∙ ap (option_map fault_of) (sym (second_of_both (wrong_parts c.args.variables.now earlier r) (wrong_number_or_arrow earlier r) c.in_default.ensures))
