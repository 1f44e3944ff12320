use Rattle.std.proofs.Common.{◌≡◌, drop, bytes_eq}
use Rattle.std.specs.List.{list_any}
use Rattle.chr_rules.specs.RuleView.{rules_view}
use Rattle.chr_rules.proofs.rules.is_label.Given as goal

abbrev pub invariant-loop-rule : goal.invariant-loop-rule
invariant-loop-rule g l = list_any (λ r. bytes_eq l.label r.label) (rules_view l.rules) ≡ list_any (λ r. bytes_eq l.label r.label) (rules_view (drop l.rule-index l.rules))
