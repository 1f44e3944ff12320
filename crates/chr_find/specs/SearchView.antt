-- What a search goes by.
use Rattle.std.specs.Prelude.{◌≤◌, ◌<◌, ℕ, List, All, length, vec_len}
use Rattle.chr_rules.specs.RuleView.{rule_view}
use Rattle.chr_rules.specs.declared.rule.Rule.{Rule}
use Rattle.chr_semantics.specs.Bounds.{AreBelow}
use Rattle.chr_semantics.specs.Program.{Head}
use Rattle.chr_semantics.specs.declared.limits.TheConstants.{MAX_HEADS, MAX_RULE_VARIABLES}

-- few heads, whose variables have room in a match
pub record AreSmall (heads : List Head) : Type 0 where
  pub few : length heads ≤ MAX_HEADS
  pub below : All (λ (h : Head). AreBelow MAX_RULE_VARIABLES h.atom.args) heads

-- the rule is so, and the place is one of a head
pub record IsSearchable {A : Type 0} (r : Rule A) (place : ℕ) : Type 0 where
  pub few : vec_len r.heads ≤ MAX_HEADS
  pub small : AreSmall (rule_view r).heads
  pub inside : place < vec_len r.heads
