use Rattle.std.proofs.Common.{take}
use Rattle.std.specs.List.{list_any}
use Rattle.chr_semantics.specs.Suspicion.{has_head}
use Rattle.chr_rules.specs.ProgramView.{rules_of}
use Rattle.chr_rules.specs.RuleView.{rule_view}
use Rattle.chr_suspicions.proofs.Marked.{any_more, both_marked}
use Rattle.chr_suspicions.proofs.symbols.mark_all_heads.Goals as goal

pub loop-k-preserved : goal.loop-k-preserved
loop-k-preserved g c =
    let rules = rules_of c.args.program.now in
    let k = c.loop-k.k in
    both_marked c.args.flags.now c.loop-k.flags c.mark_heads.new.flags (λ f. list_any (has_head f) (take k rules)) (λ f. has_head f (rule_view c.rule.result.now)) _ c.loop-k.auto.flags c.loop-k.invariant c.mark_heads.ensures
    (λ f. any_more (has_head f) rules k (rule_view c.rule.result.now) c.rule.ensures.is)
