use Rattle.std.proofs.Common.{◌∙◌, ap, arith, subst, sym}
use Rattle.std.proofs.lemmas.Result.{IfOk-weaker}
use Rattle.chr_semantics.specs.declared.limits.TheConstants.{MAX_RULE_VARIABLES}
use Rattle.chr_term.specs.TermView.{view}
use Rattle.chr_rules.specs.RuleView.{heads_from, rule_view}
use Rattle.chr_look.specs.Matches.{AreHeadsBelow}
use Rattle.chr_look.specs.VerdictView.{rows_view}
use Rattle.chr_look.proofs.Bounded.{heads_small, rows_below_past}
use Rattle.chr_look.proofs.Judged.{of_joined, of_parted}
use Rattle.chr_look.proofs.judging.judge_constraints.Goals as goal

pub join_heads-requires-clause-heads : goal.join_heads-requires-clause-heads
join_heads-requires-clause-heads g c = subst (AreHeadsBelow MAX_RULE_VARIABLES) (sym c.as_slice-heads.ensures.value) (heads_small c.args.rule.now c.requires)

pub join_heads-requires-clause-constraints : goal.join_heads-requires-clause-constraints
join_heads-requires-clause-constraints g c =
    let first = c.in_ok-bindings.ensures.first in
    rows_below_past c.in_ok-bindings.first (rows_view c.args.constraints.now) (omega (arith, first))

pub returns-in-Some : goal.returns-in-Some
returns-in-Some g c =
    let flags = c.args.rule.now.passive.items in
    let joins = rw c.in-Some.is at c.in_ok-parting.ensures.joins flags 0 in
    of_parted (rule_view c.args.rule.now) (rows_view c.args.constraints.now) c.in_ok-bindings.bindings.subst c.in_ok-bindings.first (heads_from flags 0 c.as_slice-heads.result.now) c.in_ok-bindings.ensures.subst c.in_ok-bindings.ensures.first
    (ap (heads_from flags 0) c.as_slice-heads.ensures.value) joins.0 c.new-way.result.items c.join_heads.new.way.items (view c.in-Some.parting.left) (view c.in-Some.parting.right) joins.1 joins.2 c.new-way.ensures.items

pub returns : goal.returns
returns g c =
    let flags = c.args.rule.now.passive.items in
    let joins = rw c.in-None.is at c.in_ok-parting.ensures.joins flags 0 in
    let is = of_joined (rule_view c.args.rule.now) (rows_view c.args.constraints.now) c.in_ok-bindings.bindings.subst c.in_ok-bindings.first (heads_from flags 0 c.as_slice-heads.result.now) c.in_ok-bindings.ensures.subst c.in_ok-bindings.ensures.first
    (ap (heads_from flags 0) c.as_slice-heads.ensures.value) c.join_heads.new.bindings.subst joins.0 in
    IfOk-weaker c.judge_match.result _ _ (λ judged h. h ∙ is) c.judge_match.ensures
