use Rattle.std.proofs.Common.{◌∙◌, ap, subst, sym}
use Rattle.chr_semantics.specs.Checked.{rule_in}
use Rattle.chr_read.specs.SyntaxView.{part_view}
use Rattle.chr_rules.specs.Building.{checked_of}
use Rattle.chr_rules.specs.Checks.{IsError}
use Rattle.chr_rules.specs.RuleView.{rules_view}
use Rattle.chr_rules.proofs.Called.{on_ok_answers}
use Rattle.chr_rules.proofs.Placed.{err_maps}
use Rattle.chr_rules.proofs.building.add_part.Goals as goal

pub returns-in-Rule-clause-accepted : goal.returns-in-Rule-clause-accepted
returns-in-Rule-clause-accepted g c =
    on_ok_answers _ _ c.add_rule.result (λ h. ap (λ p. rule_in (checked_of c.args.names.now c.args.declared (rules_view c.args.rules.now.items)) (part_view p)) c.in-Rule.is ∙ h) c.add_rule.ensures.accepted

pub returns-in-Rule-clause-refused : goal.returns-in-Rule-clause-refused
returns-in-Rule-clause-refused g c =
    err_maps _ _ c.add_rule.result (λ e h. subst (λ r. IsError e r) (ap (λ p. rule_in (checked_of c.args.names.now c.args.declared (rules_view c.args.rules.now.items)) (part_view p)) (sym c.in-Rule.is)) h) c.add_rule.ensures.refused
