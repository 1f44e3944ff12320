use Rattle.std.proofs.Common.{◌∙◌, ap, option_map, sym}
use Rattle.std.proofs.lemmas.Result.{IfOk-weaker}
use Rattle.chr_rules.specs.RuleView.{heads_from, rule_view}
use Rattle.chr_look.specs.VerdictView.{rows_view, verdict_view}
use Rattle.chr_look.proofs.Judged.{by_other_symbol, by_their_terms}
use Rattle.chr_look.proofs.judging.judge_list.Goals as goal

pub returns-in-Some : goal.returns-in-Some
returns-in-Some g c =
    let rule = c.args.rule.now in
    let flags = rule.passive.items in
    let other = sym (c.other_symbol.ensures flags 0) ∙ ap (option_map verdict_view) c.in-Some.is in
    by_other_symbol (rule_view rule) (rows_view c.args.constraints.now) _ (ap (heads_from flags 0) c.as_slice.ensures.value) (verdict_view c.in-Some.other) other

pub returns-in-None : goal.returns-in-None
returns-in-None g c =
    let rule = c.args.rule.now in
    let flags = rule.passive.items in
    let none = sym (c.other_symbol.ensures flags 0) ∙ ap (option_map verdict_view) c.in-None.is in
    IfOk-weaker c.judge_constraints.result _ _
    (λ judged h. by_their_terms (rule_view rule) (rows_view c.args.constraints.now) _ (ap (heads_from flags 0) c.as_slice.ensures.value) (verdict_view judged) none h)
    c.judge_constraints.ensures
