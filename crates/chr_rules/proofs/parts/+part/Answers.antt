use Rattle.std.specs.Prelude.{length}
use Rattle.std.proofs.Common.{rules, ◌≡◌, ◌∙◌, ap, sym, arith}
use Rattle.std.specs.List.{list_any}
use Rattle.chr_semantics.specs.Syntax.{exprs_of}
use Rattle.chr_read.specs.SyntaxView.{view, views}
use Rattle.chr_term.proofs.Signs.{or_after, or_at_once}
use Rattle.chr_rules.specs.Parts.{has_sought, have_sought, is_arity_sought, operands}
use Rattle.chr_rules.specs.Weight.{weight, weights, operand_weights}
use Rattle.chr_rules.proofs.Weighs.{call_weighs, chain_weighs, element_weighs, list_weighs, list_with_end_weighs}
use Rattle.chr_rules.proofs.Within.{part_in_call, part_in_chain, part_in_list, part_in_list_with_end}
use Rattle.chr_rules.proofs.parts.+part.Goals as goal

pub operands_have_sought-has_sought-requires : goal.operands_have_sought-has_sought-requires
operands_have_sought-has_sought-requires g t c κs within =
    let less = element_weighs (λ x. weight x.1) c.args.others.now c.loop-other.other-index c.other-item.result c.loop-other-test.true c.other-item.is in
    (omega (arith, c.decreases, less), search rules)

pub have_sought-has_sought-requires : goal.have_sought-has_sought-requires
have_sought-has_sought-requires g t c κs within =
    let less = element_weighs weight c.args.exprs.now c.loop-expr.expr-index c.expr-item.result c.loop-expr-test.true c.expr-item.is in
    (omega (arith, c.decreases, less), search rules)

pub has_sought-have_sought-requires : goal.has_sought-have_sought-requires
has_sought-have_sought-requires g t c κs within =
    let whole = call_weighs c.args.expr.now c.in-Call.field-0 c.in-Call.args c.in-Call.is in
    let part = ap weights c.as_slice.ensures.value in
    (omega (arith, c.decreases, whole, part), search rules)

pub has_sought-have_sought-requires-in-List : goal.has_sought-have_sought-requires-in-List
has_sought-have_sought-requires-in-List g t c κs within =
    let whole = list_weighs c.args.expr.now c.in-List.items c.in-List.is in
    let part = ap weights c.as_slice-in-List.ensures.value in
    (omega (arith, c.decreases, whole, part), search rules)

pub has_sought-have_sought-requires-in-ListWithEnd : goal.has_sought-have_sought-requires-in-ListWithEnd
has_sought-have_sought-requires-in-ListWithEnd g t c κs within =
    let whole = list_with_end_weighs c.args.expr.now c.in-ListWithEnd.items c.in-ListWithEnd.end c.in-ListWithEnd.is in
    let part = ap weights c.as_slice-in-ListWithEnd.ensures.value in
    (omega (arith, c.decreases, whole, part), search rules)

pub has_sought-has_sought-requires : goal.has_sought-has_sought-requires
has_sought-has_sought-requires g t c κs within =
    let whole = list_with_end_weighs c.args.expr.now c.in-ListWithEnd.items c.in-ListWithEnd.end c.in-ListWithEnd.is in
    let part = ap weight c.deref.ensures in
    (omega (arith, c.decreases, whole, part), search rules)

pub has_sought-has_sought-requires-in-Chain : goal.has_sought-has_sought-requires-in-Chain
has_sought-has_sought-requires-in-Chain g t c κs within =
    let whole = chain_weighs c.args.expr.now c.in-Chain.first c.in-Chain.others c.in-Chain.is in
    let part = ap weight c.deref-in-Chain.ensures in
    (omega (arith, c.decreases, whole, part), search rules)

pub has_sought-operands_have_sought-requires : goal.has_sought-operands_have_sought-requires
has_sought-operands_have_sought-requires g t c κs within =
    let whole = chain_weighs c.args.expr.now c.in-Chain.first c.in-Chain.others c.in-Chain.is in
    let part = ap operand_weights c.as_slice-else-has_sought.ensures.value in
    (omega (arith, c.decreases, whole, part), search rules)

pub has_sought-returns-then-is_arity_sought : goal.has_sought-returns-then-is_arity_sought
has_sought-returns-then-is_arity_sought g t c =
    let len : c.len.result ≡ length c.in-Call.args.items = omega (arith, c.len.ensures, c.in-Call.args.ok.0) in
    or_at_once _ _ _ c.if-is_arity_sought.true (c.is_arity_sought.ensures ∙ ap (is_arity_sought c.args.sought) len)
    ∙ sym (part_in_call _ _ c.args.expr.now c.in-Call.field-0 c.in-Call.args c.in-Call.is)

pub has_sought-returns-else-is_arity_sought : goal.has_sought-returns-else-is_arity_sought
has_sought-returns-else-is_arity_sought g t c =
    let len : c.len.result ≡ length c.in-Call.args.items = omega (arith, c.len.ensures, c.in-Call.args.ok.0) in
    or_after _ _ _ _ c.if-is_arity_sought.false (c.is_arity_sought.ensures ∙ ap (is_arity_sought c.args.sought) len)
    (c.have_sought.ensures ∙ ap (λ es. have_sought c.args.sought (exprs_of (views es))) c.as_slice.ensures.value)
    ∙ sym (part_in_call _ _ c.args.expr.now c.in-Call.field-0 c.in-Call.args c.in-Call.is)

pub has_sought-returns-in-List : goal.has_sought-returns-in-List
has_sought-returns-in-List g t c =
    c.have_sought-in-List.ensures ∙ ap (λ es. have_sought c.args.sought (exprs_of (views es))) c.as_slice-in-List.ensures.value
    ∙ sym (part_in_list _ _ c.args.expr.now c.in-List.items c.in-List.is)

pub has_sought-returns-then-have_sought : goal.has_sought-returns-then-have_sought
has_sought-returns-then-have_sought g t c =
    or_at_once _ _ _ c.if-have_sought.true (c.have_sought-in-ListWithEnd.ensures ∙ ap (λ es. have_sought c.args.sought (exprs_of (views es))) c.as_slice-in-ListWithEnd.ensures.value)
    ∙ sym (part_in_list_with_end _ _ c.args.expr.now c.in-ListWithEnd.items c.in-ListWithEnd.end c.in-ListWithEnd.is)

pub has_sought-returns-else-have_sought : goal.has_sought-returns-else-have_sought
has_sought-returns-else-have_sought g t c =
    or_after _ _ _ _ c.if-have_sought.false (c.have_sought-in-ListWithEnd.ensures ∙ ap (λ es. have_sought c.args.sought (exprs_of (views es))) c.as_slice-in-ListWithEnd.ensures.value)
    (c.has_sought.ensures ∙ ap (λ e. has_sought c.args.sought (view e)) c.deref.ensures)
    ∙ sym (part_in_list_with_end _ _ c.args.expr.now c.in-ListWithEnd.items c.in-ListWithEnd.end c.in-ListWithEnd.is)

pub has_sought-returns-then-has_sought : goal.has_sought-returns-then-has_sought
has_sought-returns-then-has_sought g t c =
    or_at_once _ _ _ c.if-has_sought.true (c.has_sought-in-Chain.ensures ∙ ap (λ e. has_sought c.args.sought (view e)) c.deref-in-Chain.ensures)
    ∙ sym (part_in_chain _ _ c.args.expr.now c.in-Chain.first c.in-Chain.others c.in-Chain.is)

pub has_sought-returns-else-has_sought : goal.has_sought-returns-else-has_sought
has_sought-returns-else-has_sought g t c =
    or_after _ _ _ _ c.if-has_sought.false (c.has_sought-in-Chain.ensures ∙ ap (λ e. has_sought c.args.sought (view e)) c.deref-in-Chain.ensures)
    (c.operands_have_sought.ensures ∙ ap (λ xs. list_any (has_sought c.args.sought) (operands xs)) c.as_slice-else-has_sought.ensures.value)
    ∙ sym (part_in_chain _ _ c.args.expr.now c.in-Chain.first c.in-Chain.others c.in-Chain.is)
