use Rattle.std.proofs.Common.{◌≤◌, drop, vec_len}
use Rattle.chr_rules.specs.RuleView.{rule_view}
use Rattle.chr_find.specs.Joins.{QuietFrom}
use Rattle.chr_find.specs.PlanView.{lookups_of}
use Rattle.chr_find.specs.Shown.{ForRows}
use Rattle.chr_find.proofs.new_partners.quiet_from.Given as goal

abbrev pub invariant-loop-quiet : goal.invariant-loop-quiet
invariant-loop-quiet g l = (l.quiet ≤ vec_len l.rule.heads) × ForRows (lookups_of l.plan) l.rows (λ shown. QuietFrom shown l.place l.own l.from l.quiet (drop l.quiet (rule_view l.rule).heads))

abbrev pub decreases-loop-quiet : goal.decreases-loop-quiet
decreases-loop-quiet g l = l.quiet
