use Rattle.std.proofs.Common.{◌∙◌, ◌||◌, ap, map, sym, take}
use Rattle.std.specs.List.{list_any}
use Rattle.chr_semantics.specs.Program.{Rule}
use Rattle.chr_semantics.specs.Suspicion.{makes}
use Rattle.chr_rules.specs.ProgramView.{rules_of}
use Rattle.chr_rules.specs.RuleView.{goal_view, rule_view}
use Rattle.chr_suspicions.proofs.Marked.{any_more, both_marked}
use Rattle.chr_suspicions.proofs.symbols.mark_bodies.Goals as goal

pub loop-k-preserved : goal.loop-k-preserved
loop-k-preserved g c =
    let rules = rules_of c.args.program.now in
    let k = c.loop-k.k in
    both_marked c.args.flags.now c.loop-k.flags c.mark_goals.new.flags (λ f. list_any (λ (r : Rule). list_any (makes f) r.body) (take k rules)) (λ f. list_any (makes f) (map goal_view c.as_slice.result.now)) _ c.loop-k.auto.flags c.loop-k.invariant c.mark_goals.ensures
    (λ f. any_more (λ (r : Rule). list_any (makes f) r.body) rules k (rule_view c.rule.result.now) c.rule.ensures.is ∙ ap (λ gs. list_any (λ (r : Rule). list_any (makes f) r.body) (take k rules) || list_any (makes f) (map goal_view gs)) (sym c.as_slice.ensures.value))
