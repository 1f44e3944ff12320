use Rattle.std.proofs.Common.{◌≡◌, ◌∙◌, ap, arith, get_or, length, sym}
use Rattle.chr_term.specs.TermView.{trees_view}
use Rattle.chr_rules.specs.RuleView.{heads_from, rule_view}
use Rattle.chr_suspicions.proofs.Doubled.{doubled, not_doubled}
use Rattle.chr_suspicions.proofs.heads.drops_duplicates.Goals as goal

pub returns-in_default : goal.returns-in_default
returns-in_default g c = not_doubled (rule_view c.args.rule.now) c.args.rule.now.passive.items c.as_slice.result.now (ap (heads_from c.args.rule.now.passive.items 0) (sym c.as_slice.ensures.value)) (λ e. absurd (omega (arith, e)))

pub returns-in_default-2 : goal.returns-in_default-2
returns-in_default-2 g c = not_doubled (rule_view c.args.rule.now) c.args.rule.now.passive.items c.as_slice.result.now (ap (heads_from c.args.rule.now.passive.items 0) (sym c.as_slice.ensures.value)) (λ e. absurd (omega (arith, e)))

pub returns-then-eq : goal.returns-then-eq
returns-then-eq g c =
    let guard : length c.args.rule.now.guard.items ≡ 0 = grind (arith, c.is_empty.ensures, c.if-not-is_empty.false, c.args.rule.now.guard.ok.0) in
    let two : length c.args.rule.now.heads.items ≡ 2 = omega (arith, ap length c.as_slice.ensures.value) in
    let first = c.as_slice-then-eq.ensures.value in
    let second = c.as_slice-then-eq-2.ensures.value in
    doubled c.args.rule.now c.first-item.result c.second-item.result c.same_all.result guard (omega arith) two
    (c.first-item.is ∙ ap (λ hs. get_or hs 0 c.first-item.result) c.as_slice.ensures.value) (c.second-item.is ∙ ap (λ hs. get_or hs 1 c.second-item.result) c.as_slice.ensures.value) (sym c.if-eq.ensures)
    (λ h. ap trees_view (sym first) ∙ c.same_all.ensures.0 h ∙ ap trees_view second, λ e. c.same_all.ensures.1 (ap trees_view first ∙ e ∙ ap trees_view (sym second)))
