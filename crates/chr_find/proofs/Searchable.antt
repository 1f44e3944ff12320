-- The rules of a program can be searched.
use Rattle.std.proofs.Common.{◌≡◌, ◌<◌, ◌≤◌, ℕ, arith, length}
use Rattle.std.proofs.lemmas.List.Elements.{All-weaker}
use Rattle.chr_semantics.specs.Bounds.{AreBelow, IsBounded, IsHeadBelow}
use Rattle.chr_semantics.proofs.Below.{below_more_all}
use Rattle.chr_rules.specs.RuleView.{rule_view}
use Rattle.chr_rules.specs.declared.rule.Rule.{Rule}
use Rattle.chr_semantics.specs.Program.{Head}
use Rattle.chr_semantics.specs.declared.limits.TheConstants.{MAX_RULE_VARIABLES}
use Rattle.chr_find.specs.SearchView.{IsSearchable}
use Rattle.chr_find.proofs.RuleHeads.{heads_length}

pub searchable : {A : Type 0} (r : Rule A) (place : ℕ) → IsBounded (rule_view r) → place < length (rule_view r).heads → IsSearchable r place
searchable r place b lt =
    let n : length (rule_view r).heads ≡ length r.heads.items = heads_length r.heads.items r.passive.items in
    let few : (rule_view r).head_vars ≤ MAX_RULE_VARIABLES = omega (arith, b.ordered, b.few) in
    record {
      few = omega (arith, b.few_heads, n);
      small = record {
        few = omega (arith, b.few_heads);
        below = All-weaker (IsHeadBelow (rule_view r).head_vars) (λ (h : Head). AreBelow MAX_RULE_VARIABLES h.atom.args) (λ h below. below_more_all (rule_view r).head_vars MAX_RULE_VARIABLES h.atom.args few below) (rule_view r).heads b.heads;
      };
      inside = omega (arith, n, lt);
    }
