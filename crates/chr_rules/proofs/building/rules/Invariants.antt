use Rattle.std.proofs.Common.{◌≡◌, [], drop}
use Rattle.chr_semantics.specs.Checked.{each, rule_in}
use Rattle.chr_read.specs.SyntaxView.{part_views}
use Rattle.chr_rules.specs.Building.{checked_of}
use Rattle.chr_rules.specs.RuleView.{rules_view}
use Rattle.chr_rules.proofs.building.rules.Given as goal

abbrev pub invariant-loop-part : goal.invariant-loop-part
invariant-loop-part g l = each rule_in (checked_of l.initial.names l.declared []) (part_views l.parts) ≡ each rule_in (checked_of l.names l.declared (rules_view l.rules.items)) (part_views (drop l.part-index l.parts))
