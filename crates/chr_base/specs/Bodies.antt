-- What the body of a rule that fires is built from.
use Rattle.std.specs.Prelude.{ℕ}
use Rattle.chr_semantics.specs.Program.{Rule}
use Rattle.chr_semantics.specs.Step.{in_body}
use Rattle.chr_semantics.specs.Subst.{Subst}
use Rattle.chr_semantics.specs.Tree.{Tree}
use Rattle.chr_bind.specs.Matching.{AgreesWith}
use Rattle.chr_rules.specs.RuleView.{rule_view}
use Rattle.chr_base.specs.declared.body.Body.{Body}

module _ {A : Type 0} where
  abbrev pub rule_in : Body A → Rule
  rule_in b = rule_view b.rule.now

  -- its heads are matched so
  abbrev pub IsMatch : Body A → Subst → Type 0
  IsMatch b m = AgreesWith b.matching.now m

  -- what a variable of the rule stands for, where they are matched so
  abbrev pub stands_for : Body A → Subst → ℕ → Tree
  stands_for b m = in_body (rule_in b) m b.next
