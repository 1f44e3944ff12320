use Rattle.std.proofs.Common.{[], ◌∙◌, ap, arith, subst, sym}
use Rattle.chr_semantics.specs.Match.{fit_rows}
use Rattle.chr_semantics.specs.declared.limits.TheConstants.{MAX_RULE_VARIABLES}
use Rattle.chr_bind.specs.Guards.{test_view}
use Rattle.chr_rules.specs.RuleView.{heads_from, rule_view}
use Rattle.chr_look.specs.Matches.{AreHeadsBelow}
use Rattle.chr_look.specs.VerdictView.{rows_view}
use Rattle.chr_look.proofs.Bounded.{heads_small}
use Rattle.chr_look.proofs.Judged.{at_none, at_some, no_match, no_test, that_test}
use Rattle.chr_look.proofs.judging.test_applied.Goals as goal

pub match_heads-requires : goal.match_heads-requires
match_heads-requires g c = ((omega arith), subst (AreHeadsBelow MAX_RULE_VARIABLES) (sym c.as_slice.ensures.value) (heads_small c.args.rule.now c.requires))

pub returns-then-not-match_heads : goal.returns-then-not-match_heads
returns-then-not-match_heads g c =
    let rows = rows_view c.args.constraints.now in
    let found = c.if-not-match_heads.ensures c.args.rule.now.passive.items 0 [] c.new-matching.ensures in
    let same = ap (λ hs. fit_rows (heads_from c.args.rule.now.passive.items 0 hs) rows []) (sym c.as_slice.ensures.value) ∙ found in
    no_match (rule_view c.args.rule.now) c.args.k _ same

pub returns-in-None : goal.returns-in-None
returns-in-None g c =
    let rows = rows_view c.args.constraints.now in
    let found = c.if-not-match_heads.ensures c.args.rule.now.passive.items 0 [] c.new-matching.ensures in
    let same = ap (λ hs. fit_rows (heads_from c.args.rule.now.passive.items 0 hs) rows []) (sym c.as_slice.ensures.value) ∙ found.1 in
    no_test (rule_view c.args.rule.now) c.args.k _ found.0 same (at_none c.args.rule.now.guard.items _ (rw c.in-None.is at c.test_at.ensures))

pub returns-in_ok-applied-in-Some : goal.returns-in_ok-applied-in-Some
returns-in_ok-applied-in-Some g c =
    let rows = rows_view c.args.constraints.now in
    let found = c.if-not-match_heads.ensures c.args.rule.now.passive.items 0 [] c.new-matching.ensures in
    let same = ap (λ hs. fit_rows (heads_from c.args.rule.now.passive.items 0 hs) rows []) (sym c.as_slice.ensures.value) ∙ found.1 in
    let there = at_some c.args.rule.now.guard.items _ _ (rw c.in-Some.is at c.test_at.ensures) in
    that_test (rule_view c.args.rule.now) c.args.k _ found.0 (test_view c.in-Some.test.now) _ same there (c.in_ok-applied-in-Some.ensures found.0 found.2)
