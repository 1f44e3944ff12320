use Rattle.std.proofs.Common.{length}
use Rattle.chr_store.specs.Numbers.{numbers}
use Rattle.chr_rules.specs.RuleView.{rule_view}
use Rattle.chr_base.proofs.Matched.{IsMatchedTo}
use Rattle.chr_base.proofs.heads.match_heads.Given as goal

abbrev pub invariant-loop-head : goal.invariant-loop-head
invariant-loop-head g l = IsMatchedTo l.base.table (rule_view l.rule).heads (numbers l.ids) (length l.yielded) l.matching
