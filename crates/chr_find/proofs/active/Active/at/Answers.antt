use Rattle.chr_rules.specs.RuleView.{rule_view}
use Rattle.chr_find.proofs.Searchable.{searchable}
use Rattle.chr_find.proofs.active.Active.at.Goals as goal

pub invariant_of-result : goal.invariant_of-result
invariant_of-result g c = record { searchable = searchable c.rule.result.now c.args.occurrence.place c.rule.ensures.bounded (c.requires.place (rule_view c.rule.result.now) c.rule.ensures.is) }
