use Rattle.std.proofs.Common.{ℕ, List, map, subst}
use Rattle.std.specs.Prelude.{IfOk}
use Rattle.chr_semantics.specs.State.{goal}
use Rattle.chr_store.specs.Numbers.{numbers}
use Rattle.chr_rules.specs.RuleView.{goal_view, rule_view}
use Rattle.chr_base.specs.BaseView.{base_view}
use Rattle.chr_base.specs.Searching.{IsBodyFor}
use Rattle.chr_base.proofs.Searched.{built_body}
use Rattle.chr_base.proofs.base.Base.body.Goals as goal

pub returns : goal.returns
returns g c =
    let b = c.args.self.now in
    let rule = rule_view c.args.rule.now in
    subst (λ (ids : List ℕ). IfOk c.build_fired.result (λ built. IsBodyFor (base_view b) rule ids (map (λ g. goal (goal_view g)) built.items))) c.as_slice.ensures.ids
    (built_body b c.requires.fresh rule (numbers c.as_slice.result.now) c.len-next.result c.build_fired.result c.len-next.ensures.len c.build_fired.ensures)
