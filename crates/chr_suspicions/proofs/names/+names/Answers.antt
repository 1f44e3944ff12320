use Rattle.std.proofs.Common.{rules, ◌∙◌, ◌++◌, ap, arith, flat_map, refl, sym}
use Rattle.std.proofs.lemmas.Result.{on_ok_weaker}
use Rattle.chr_semantics.specs.Suspicion.{names_in, names_in_all}
use Rattle.chr_semantics.specs.Syntax.{exprs_of}
use Rattle.chr_read.specs.SyntaxView.{view, views}
use Rattle.chr_rules.specs.Weight.{operand_weights, weight, weights}
use Rattle.chr_rules.proofs.Weighs.{call_weighs, chain_weighs, element_weighs, list_weighs, list_with_end_weighs}
use Rattle.chr_rules.specs.Parts.{operands}
use Rattle.chr_suspicions.specs.Words.{words_of}
use Rattle.chr_suspicions.proofs.Appended.{both_appended, next_appended}
use Rattle.chr_suspicions.proofs.Named.{chain_names, list_names, list_with_end_names}
use Rattle.chr_suspicions.proofs.names.+names.Goals as goal

pub push_names-returns-in-List : goal.push_names-returns-in-List
push_names-returns-in-List g t c =
    let is = ap (λ es. names_in_all (exprs_of (views es))) c.as_slice-in-List.ensures.value ∙ sym (list_names c.args.expr.now c.in-List.items c.in-List.is) in
    on_ok_weaker c.push_names_of_all-in-List.result (λ h. h ∙ ap (λ ws. words_of c.args.words.now.items ++ ws) is) c.push_names_of_all-in-List.ensures

pub push_names-returns-in_ok-push_names_of_all-in-ListWithEnd : goal.push_names-returns-in_ok-push_names_of_all-in-ListWithEnd
push_names-returns-in_ok-push_names_of_all-in-ListWithEnd g t c =
    let items = ap (λ es. names_in_all (exprs_of (views es))) c.as_slice-in-ListWithEnd.ensures.value in
    let end = ap (λ e. names_in (view e)) c.deref.ensures in
    let whole = list_with_end_names c.args.expr.now c.in-ListWithEnd.items c.in-ListWithEnd.end c.in-ListWithEnd.is in
    on_ok_weaker c.push_names.result
    (λ h. both_appended (words_of c.args.words.now.items) (words_of c.push_names_of_all-in-ListWithEnd.new.words.items) (words_of c.push_names.new.words.items) _ _ _ _ (names_in (view c.args.expr.now))
    c.in_ok-push_names_of_all-in-ListWithEnd.ensures items h end whole)
    c.push_names.ensures

pub push_names-returns-in_ok-push_names-in-Chain : goal.push_names-returns-in_ok-push_names-in-Chain
push_names-returns-in_ok-push_names-in-Chain g t c =
    let first = ap (λ e. names_in (view e)) c.deref-in-Chain.ensures in
    let others = ap (λ xs. flat_map names_in (operands xs)) c.as_slice-in-Chain.ensures.value in
    let whole = chain_names c.args.expr.now c.in-Chain.first c.in-Chain.others c.in-Chain.is in
    on_ok_weaker c.push_names_of_operands.result
    (λ h. both_appended (words_of c.args.words.now.items) (words_of c.push_names-in-Chain.new.words.items) (words_of c.push_names_of_operands.new.words.items) _ _ _ _ (names_in (view c.args.expr.now))
    c.in_ok-push_names-in-Chain.ensures first h others whole)
    c.push_names_of_operands.ensures

pub push_names_of_all-loop-expr-preserved : goal.push_names_of_all-loop-expr-preserved
push_names_of_all-loop-expr-preserved g t c =
    next_appended (λ e. names_in (view e)) (λ es. names_in_all (exprs_of (views es))) (λ e es. refl) c.args.exprs.now c.loop-expr.expr-index c.expr-item.result
    (words_of c.loop-expr.words.items) (words_of c.push_names.new.words.items) _ c.loop-expr-test.true c.expr-item.is c.in_ok-push_names.ensures c.loop-expr.invariant

pub push_names_of_operands-push_names-requires : goal.push_names_of_operands-push_names-requires
push_names_of_operands-push_names-requires g t c κs within =
    let less = element_weighs (λ x. weight x.1) c.args.others.now c.loop-other.other-index c.other-item.result c.loop-other-test.true c.other-item.is in
    (omega (arith, c.decreases, less), search rules)

pub push_names_of_all-push_names-requires : goal.push_names_of_all-push_names-requires
push_names_of_all-push_names-requires g t c κs within =
    let less = element_weighs weight c.args.exprs.now c.loop-expr.expr-index c.expr-item.result c.loop-expr-test.true c.expr-item.is in
    (omega (arith, c.decreases, less), search rules)

pub push_names-push_names_of_all-requires : goal.push_names-push_names_of_all-requires
push_names-push_names_of_all-requires g t c κs within =
    let whole = call_weighs c.args.expr.now c.in-Call.field-0 c.in-Call.args c.in-Call.is in
    let part = ap weights c.as_slice.ensures.value in
    (omega (arith, c.decreases, whole, part), search rules)

pub push_names-push_names_of_all-requires-in-List : goal.push_names-push_names_of_all-requires-in-List
push_names-push_names_of_all-requires-in-List g t c κs within =
    let whole = list_weighs c.args.expr.now c.in-List.items c.in-List.is in
    let part = ap weights c.as_slice-in-List.ensures.value in
    (omega (arith, c.decreases, whole, part), search rules)

pub push_names-push_names_of_all-requires-in-ListWithEnd : goal.push_names-push_names_of_all-requires-in-ListWithEnd
push_names-push_names_of_all-requires-in-ListWithEnd g t c κs within =
    let whole = list_with_end_weighs c.args.expr.now c.in-ListWithEnd.items c.in-ListWithEnd.end c.in-ListWithEnd.is in
    let part = ap weights c.as_slice-in-ListWithEnd.ensures.value in
    (omega (arith, c.decreases, whole, part), search rules)

pub push_names-push_names-requires : goal.push_names-push_names-requires
push_names-push_names-requires g t c κs within =
    let whole = list_with_end_weighs c.args.expr.now c.in-ListWithEnd.items c.in-ListWithEnd.end c.in-ListWithEnd.is in
    let part = ap weight c.deref.ensures in
    (omega (arith, c.decreases, whole, part), search rules)

pub push_names-push_names-requires-in-Chain : goal.push_names-push_names-requires-in-Chain
push_names-push_names-requires-in-Chain g t c κs within =
    let whole = chain_weighs c.args.expr.now c.in-Chain.first c.in-Chain.others c.in-Chain.is in
    let part = ap weight c.deref-in-Chain.ensures in
    (omega (arith, c.decreases, whole, part), search rules)

pub push_names-push_names_of_operands-requires : goal.push_names-push_names_of_operands-requires
push_names-push_names_of_operands-requires g t c κs within =
    let whole = chain_weighs c.args.expr.now c.in-Chain.first c.in-Chain.others c.in-Chain.is in
    let part = ap operand_weights c.as_slice-in-Chain.ensures.value in
    (omega (arith, c.decreases, whole, part), search rules)

pub push_names_of_operands-loop-other-preserved : goal.push_names_of_operands-loop-other-preserved
push_names_of_operands-loop-other-preserved g t c =
    next_appended (λ x. names_in (view x.1)) (λ xs. flat_map names_in (operands xs)) (λ x xs. refl) c.args.others.now c.loop-other.other-index c.other-item.result
    (words_of c.loop-other.words.items) (words_of c.push_names.new.words.items) _ c.loop-other-test.true c.other-item.is c.in_ok-push_names.ensures c.loop-other.invariant
