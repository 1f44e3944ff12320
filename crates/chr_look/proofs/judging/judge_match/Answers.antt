use Rattle.std.proofs.Common.{[], ◌∙◌, ap, arith, map, subst, sym}
use Rattle.std.proofs.lemmas.Result.{IfOk-weaker}
use Rattle.chr_semantics.specs.Match.{fit_rows}
use Rattle.chr_semantics.specs.Verdict.{first_lack, of_match}
use Rattle.chr_bind.specs.Guards.{test_view}
use Rattle.chr_rules.specs.RuleView.{heads_from, rule_view}
use Rattle.chr_look.specs.VerdictView.{rows_view}
use Rattle.chr_look.specs.Matches.{AreHeadsBelow}
use Rattle.chr_semantics.specs.declared.limits.TheConstants.{MAX_RULE_VARIABLES}
use Rattle.chr_look.proofs.Bounded.{heads_small}
use Rattle.chr_look.proofs.judging.judge_match.Goals as goal

pub match_heads-requires : goal.match_heads-requires
match_heads-requires g c = ((omega arith), subst (AreHeadsBelow MAX_RULE_VARIABLES) (sym c.as_slice.ensures.value) (heads_small c.args.rule.now c.requires))

pub returns-then-match_heads : goal.returns-then-match_heads
returns-then-match_heads g c =
    let rule = rule_view c.args.rule.now in
    let rows = rows_view c.args.constraints.now in
    let heads = c.as_slice.ensures.value in
    let found = c.if-match_heads.ensures c.args.rule.now.passive.items 0 [] c.new-matching.ensures in
    let same = ap (λ hs. fit_rows (heads_from c.args.rule.now.passive.items 0 hs) rows []) (sym heads) ∙ found.1 in
    IfOk-weaker c.judge_guard.result _ _
    (λ judged h. h found.0 found.2 ∙ ap (λ ts. first_lack found.0 1 (map test_view ts)) c.as_slice-then-match_heads.ensures.value ∙ sym (ap (of_match rule rows c.args.bindings.now.subst) same))
    c.judge_guard.ensures
