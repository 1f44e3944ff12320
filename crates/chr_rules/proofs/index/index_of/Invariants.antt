use Rattle.std.proofs.Common.{take}
use Rattle.chr_rules.specs.Index.{AreListed}
use Rattle.chr_rules.specs.RuleView.{rules_view}
use Rattle.chr_rules.proofs.index.index_of.Given as goal

abbrev pub invariant-loop-number : goal.invariant-loop-number
invariant-loop-number g l = AreListed l.index.items (rules_view (take l.number l.rules))
