use Rattle.std.proofs.Common.{◌≡◌, ◌≤◌, ◌∙◌, Some, ap, length, option_map, subst, sym}
use Rattle.std.specs.Prelude.{slice_get}
use Rattle.chr_semantics.specs.Program.{Program, Rule}
use Rattle.chr_semantics.specs.declared.limits.TheConstants.{MAX_HEADS}
use Rattle.chr_rules.specs.RuleView.{rule_view}
use Rattle.chr_machine.specs.Model.{state_in}
use Rattle.chr_look.specs.LookedView.{model_of, symbol_behind}
use Rattle.chr_look.specs.VerdictView.{verdict_view}
use Rattle.chr_look.proofs.FrontSteps.{goes_on, is_last_there, none_from, none_of}
use Rattle.chr_look.proofs.fronts.Looked.judge.Goals as goal

pub returns-clause-next : goal.returns-clause-next
returns-clause-next g c rule is =
    let l = c.args.self.now in
    let there : Some (rule_view c.rule.result.now) ≡ Some rule = sym c.rule.ensures.is ∙ ap (λ (p : Program). slice_get p l.rule) c.program.ensures.rules ∙ is in
    let same : rule_view c.rule.result.now ≡ rule = cc in
    let few = subst (λ (r : Rule). length r.heads ≤ MAX_HEADS) same c.rule.ensures.bounded.few_heads in
    let next = c.next_symbol-next.ensures ∙ ap (λ (r : Rule). symbol_behind r c.args.front (verdict_view c.in_ok-verdict.verdict)) same in
    goes_on l rule c.args.front (c.requires.front.2 rule is) (verdict_view c.in_ok-verdict.verdict) _ few (c.in_ok-verdict.ensures rule is) next

pub returns-clause-noted : goal.returns-clause-noted
returns-clause-noted g c rule is all are =
    let l = c.args.self.now in
    let there : Some (rule_view c.rule.result.now) ≡ Some rule = sym c.rule.ensures.is ∙ ap (λ (p : Program). slice_get p l.rule) c.program.ensures.rules ∙ is in
    let same : rule_view c.rule.result.now ≡ rule = cc in
    let next = c.next_symbol-next.ensures ∙ ap (λ (r : Rule). symbol_behind r c.args.front (verdict_view c.in_ok-verdict.verdict)) same in
    let last = none_from c.next_symbol-next.result c.is_none.result c.is_none.ensures ∙ none_of (λ f. f.0) c.next_symbol-next.result ∙ is_last_there l rule c.args.front (c.requires.front.2 rule is) (verdict_view c.in_ok-verdict.verdict) _ (c.in_ok-verdict.ensures rule is) next in
    c.in_ok-note.ensures (state_in (model_of l)) l.rule rule all are (c.in_ok-verdict.ensures rule is) last
