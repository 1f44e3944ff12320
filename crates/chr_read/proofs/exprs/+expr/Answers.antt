use Rattle.std.proofs.Common.{◌∙◌, ◌∷◌, ◌++◌, ◌<◌, ◌≤◌, [], None, Some, ap, arith, length, refl, sym}
use Rattle.std.proofs.lemmas.Result.{IfOk-at_ok, IfOk-from_err, IfOk-weaker}
use Rattle.chr_semantics.specs.Tokens.{closes, closes_list}
use Rattle.chr_semantics.specs.Syntax.{list as syntax_list, nil}
use Rattle.chr_tokens.specs.TokenView.{additive_view, multiplicative_view, placed_views}
use Rattle.chr_tokens.specs.declared.token.Additive.TheVariants.{Minus}
use Rattle.chr_tokens.specs.declared.token.Sign.TheVariants.{Open, OpenList}
use Rattle.chr_tokens.specs.declared.token.Token.TheVariants.{Additive, Sign}
use Rattle.chr_read.specs.Automaton.{elements, have, limited_room, listed, named, no_prefix, of_call, of_list, paren, run, state_after_primary, tail, too_deep, want}
use Rattle.chr_read.specs.Reads.{NoAdditive, NoMultiplicative, elements_verdict}
use Rattle.chr_read.specs.SyntaxView.{view, views}
use Rattle.chr_read.proofs.Halted.{expects, goes_before, goes_made, goes_on, goes_to, halts, halts_second, holds_after, refused}
use Rattle.chr_read.proofs.Steps.{call_refuses, deep_at, elements_close, list_refuses, listed_begins, named_alone, opened_at, paren_refuses, sum_settles, tail_refuses}
use Rattle.chr_read.proofs.Views.{begins_so, chain_grown, map_pushed}
use Rattle.chr_read.proofs.exprs.+expr.Goals as goal

pub elements-returns-in_err-found-clause-reads : goal.elements-returns-in_err-found-clause-reads
elements-returns-in_err-found-clause-reads g t c q b k h =
    halts _ _ _ c.from_residual.result c.in_err-found.field-0.0 c.from_residual.ensures.1 (c.loop-items.invariant.reads q b k h) (c.in_err-found.ensures.reads (elements q (views c.loop-items.items.items) b ∷ k) h)

pub elements-loop-items-preserved : goal.elements-loop-items-preserved
elements-loop-items-preserved g t c =
    let before = views c.loop-items.items.items in
    let after = before ++ view c.in_ok-found.found ∷ [] in
    let pushed = ap views c.in_ok-push.ensures.items ∙ map_pushed view c.loop-items.items.items c.in_ok-found.found in
    record {
      reads = λ q b k h. c.loop-items.invariant.reads q b k h
          ∙ c.in_ok-found.ensures.reads (elements q before b ∷ k) h
          ∙ elements_close q before (view c.in_ok-found.found) b k (placed_views c.in_ok-found.end.now) c.in_ok-found.ensures.no_sum c.in_ok-found.ensures.no_product
          ∙ ap (elements_verdict q after b k) c.in-Some.ensures.first.are
          ∙ ap (λ es. run limited_room (want no_prefix (elements q es b ∷ k)) (placed_views c.in-Some.after.now)) (sym pushed);
      within = omega (arith, c.loop-items.invariant.within, c.in-Some.ensures.shorter, c.in_ok-found.ensures.shorter);
    }

pub elements-returns-in-None-clause-reads : goal.elements-returns-in-None-clause-reads
elements-returns-in-None-clause-reads g t c q b k h =
    let before = views c.loop-items.items.items in
    let pushed = ap views c.in_ok-push.ensures.items ∙ map_pushed view c.loop-items.items.items c.in_ok-found.found in
    c.loop-items.invariant.reads q b k h
    ∙ c.in_ok-found.ensures.reads (elements q before b ∷ k) h
    ∙ elements_close q before (view c.in_ok-found.found) b k (placed_views c.in_ok-found.end.now) c.in_ok-found.ensures.no_sum c.in_ok-found.ensures.no_product
    ∙ ap (λ es. elements_verdict q es b k (placed_views c.in_ok-found.end.now)) (sym pushed)

pub in_parens-returns-in_err-inner-clause-reads : goal.in_parens-returns-in_err-inner-clause-reads
in_parens-returns-in_err-inner-clause-reads g t c b k h =
    halts _ _ _ c.from_residual.result c.in_err-inner.field-0.0 c.from_residual.ensures.1 refl (c.in_err-inner.ensures.reads (paren b ∷ k) h)

pub in_parens-returns-clause-reads : goal.in_parens-returns-clause-reads
in_parens-returns-clause-reads g t c b k h =
    let inner = view c.in_ok-inner.inner in
    goes_on _ _ _ _ (c.in_ok-inner.ensures.reads (paren b ∷ k) h)
    (goes_before closes c.in_ok-inner.end c.in_ok-inner.inner c.before_sign.result (run limited_room (have None inner (paren b ∷ k))) _ c.before_sign.ensures.first (λ p rest. refl)
    (paren_refuses inner b k (placed_views c.in_ok-inner.end.now) c.in_ok-inner.ensures.no_sum c.in_ok-inner.ensures.no_product))

pub list-returns-in-Some-clause-reads : goal.list-returns-in-Some-clause-reads
list-returns-in-Some-clause-reads g t c b k h =
    ap (run limited_room (listed b k)) c.in-Some.ensures.first.are
    ∙ ap (λ e. run limited_room (state_after_primary b e k) (placed_views c.in-Some.after.now)) (sym (c.list_of.ensures ∙ ap (λ es. syntax_list (views es) nil) c.new.ensures.items))

pub list-returns-in_err-items-clause-reads : goal.list-returns-in_err-items-clause-reads
list-returns-in_err-items-clause-reads g t c b k h =
    halts _ _ _ c.from_residual.result c.in_err-items.field-0.0 c.from_residual.ensures.1 (listed_begins b k (placed_views c.args.text.now) c.in_default.ensures.first) (c.in_err-items.ensures.reads of_list b k h)

pub list-returns-in_err-last-clause-reads : goal.list-returns-in_err-last-clause-reads
list-returns-in_err-last-clause-reads g t c b k h =
    halts _ _ _ c.from_residual-in_err-last.result c.in_err-last.field-0.0 c.from_residual-in_err-last.ensures.1
    (listed_begins b k (placed_views c.args.text.now) c.in_default.ensures.first ∙ c.in_ok-items.ensures.reads of_list b k h) (c.in_err-last.ensures.reads (views c.in_ok-items.items.items) b k h)

pub list_end-returns-in-Some-clause-reads : goal.list_end-returns-in-Some-clause-reads
list_end-returns-in-Some-clause-reads g t c es b k h = ap (elements_verdict of_list es b k) c.in-Some.ensures.first.are

pub list_end-returns-in_default-after_sign-clause-reads : goal.list_end-returns-in_default-after_sign-clause-reads
list_end-returns-in_default-after_sign-clause-reads g t c es b k h =
    list_refuses es b k (placed_views c.args.text.now) c.requires.no_comma c.in_default.ensures.first c.in_default-after_sign.ensures.first

pub list_end-returns-in_err-last-clause-reads : goal.list_end-returns-in_err-last-clause-reads
list_end-returns-in_err-last-clause-reads g t c es b k h =
    halts _ _ _ c.from_residual.result c.in_err-last.field-0.0 c.from_residual.ensures.1 (ap (elements_verdict of_list es b k) c.in-Some-after_sign.ensures.first.are) (c.in_err-last.ensures.reads (tail es b ∷ k) h)

pub list_end-returns-clause-reads : goal.list_end-returns-clause-reads
list_end-returns-clause-reads g t c es b k h =
    let last = view c.in_ok-last.last in
    goes_on _ _ _ _ (ap (elements_verdict of_list es b k) c.in-Some-after_sign.ensures.first.are ∙ c.in_ok-last.ensures.reads (tail es b ∷ k) h)
    (goes_before closes_list c.in_ok-last.end (Some c.in_ok-last.last) c.before_sign.result (run limited_room (have None last (tail es b ∷ k))) _ c.before_sign.ensures.first (λ p rest. refl)
    (tail_refuses last es b k (placed_views c.in_ok-last.end.now) c.in_ok-last.ensures.no_sum c.in_ok-last.ensures.no_product))

pub name_or_call-returns-in_err-args-clause-reads : goal.name_or_call-returns-in_err-args-clause-reads
name_or_call-returns-in_err-args-clause-reads g t c b k h =
    let w = c.args.word.now in
    halts _ _ _ c.from_residual.result c.in_err-args.field-0.0 c.from_residual.ensures.1
    (ap (run limited_room (named w b k)) c.in-Some.ensures.first.are ∙ opened_at k (want no_prefix (elements (of_call w) [] b ∷ k)) _ _ (omega (arith, h, c.if-room-eq0.false)))
    (c.in_err-args.ensures.reads (of_call w) b k (omega (arith, h, c.if-room-eq0.false)))

pub name_or_call-returns-in_err-args-2-clause-reads : goal.name_or_call-returns-in_err-args-2-clause-reads
name_or_call-returns-in_err-args-2-clause-reads g t c b k h =
    let w = c.args.word.now in
    expects _ _ c.from_residual-in_err-args-2.result c.in_err-args-2.field-0.0 c.in_ok-args.end c.from_residual-in_err-args-2.ensures.1 c.in_err-args-2.ensures.first.0
    (ap (run limited_room (named w b k)) c.in-Some.ensures.first.are
    ∙ opened_at k (want no_prefix (elements (of_call w) [] b ∷ k)) _ _ (omega (arith, h, c.if-room-eq0.false))
    ∙ c.in_ok-args.ensures.reads (of_call w) b k (omega (arith, h, c.if-room-eq0.false))
    ∙ call_refuses w (views c.in_ok-args.args.items) b k (placed_views c.in_ok-args.end.now) c.in_ok-args.ensures.no_comma c.in_err-args-2.ensures.first.1)

pub product-returns-in_err-first-clause-reads : goal.product-returns-in_err-first-clause-reads
product-returns-in_err-first-clause-reads g t c s k h =
    halts _ _ _ c.from_residual.result c.in_err-first.field-0.0 c.from_residual.ensures.1 refl (c.in_err-first.ensures.reads (record { sum = s; product = None }) k h)

pub further_primaries-returns-in_err-operand-clause-reads : goal.further_primaries-returns-in_err-operand-clause-reads
further_primaries-returns-in_err-operand-clause-reads g t c s e k h =
    halts _ _ _ c.from_residual.result c.in_err-operand.field-0.0 c.from_residual.ensures.1
    (c.loop-operator.invariant.reads s e k h ∙ ap (run limited_room (have s _ k)) c.in-Some.ensures.first.are)
    (c.in_err-operand.ensures.reads (record { sum = s; product = Some (_, multiplicative_view c.in-Some.operator) }) k h)

pub further_primaries-loop-operator-preserved : goal.further_primaries-loop-operator-preserved
further_primaries-loop-operator-preserved g t c =
    let operator = multiplicative_view c.in-Some.operator in
    record {
      reads = λ s e k h. c.loop-operator.invariant.reads s e k h
          ∙ ap (run limited_room (have s _ k)) c.in-Some.ensures.first.are
          ∙ c.in_ok-operand.ensures.reads (record { sum = s; product = Some (_, operator) }) k h
          ∙ ap (λ e. run limited_room (have s e k) (placed_views c.in_ok-operand.others.now)) (chain_grown _ _ _ _ c.in_ok-push.ensures.items);
      within = omega (arith, c.loop-operator.invariant.within, c.in-Some.ensures.shorter, c.in_ok-operand.ensures.shorter);
    }

pub sum-returns-in_err-first-clause-reads : goal.sum-returns-in_err-first-clause-reads
sum-returns-in_err-first-clause-reads g t c k h =
    halts _ _ _ c.from_residual.result c.in_err-first.field-0.0 c.from_residual.ensures.1 refl (c.in_err-first.ensures.reads None k h)

pub further_products-returns-in_err-operand-clause-reads : goal.further_products-returns-in_err-operand-clause-reads
further_products-returns-in_err-operand-clause-reads g t c e k h =
    halts _ _ _ c.from_residual.result c.in_err-operand.field-0.0 c.from_residual.ensures.1
    (c.loop-operator.invariant.reads e k h ∙ ap (run limited_room (have None _ k)) c.in-Some.ensures.first.are)
    (c.in_err-operand.ensures.reads (Some (_, additive_view c.in-Some.operator)) k h)

pub further_products-loop-operator-preserved : goal.further_products-loop-operator-preserved
further_products-loop-operator-preserved g t c =
    let operator = additive_view c.in-Some.operator in
    record {
      reads = λ e k h. c.loop-operator.invariant.reads e k h
          ∙ ap (run limited_room (have None _ k)) c.in-Some.ensures.first.are
          ∙ c.in_ok-operand.ensures.reads (Some (_, operator)) k h
          ∙ sum_settles (Some (_, operator)) (view c.in_ok-operand.operand) k (placed_views c.in_ok-operand.others.now) c.in_ok-operand.ensures.no_product
          ∙ ap (λ e. run limited_room (have None e k) (placed_views c.in_ok-operand.others.now)) (chain_grown _ _ _ _ c.in_ok-push.ensures.items);
      within = omega (arith, c.loop-operator.invariant.within, c.in-Some.ensures.shorter, c.in_ok-operand.ensures.shorter);
      no_product = c.in_ok-operand.ensures.no_product;
    }

pub elements-loop-items-init : goal.elements-loop-items-init
elements-loop-items-init g t c = record {
  reads = λ q b k h. rw (c.new-items.ensures.items, c.split_at.ensures.back) refl;
  within = omega (arith, c.split_at.ensures.back_len);
}

pub elements-loop-items-smaller : goal.elements-loop-items-smaller
elements-loop-items-smaller g t c = omega (arith, c.in-Some.ensures.shorter, c.in_ok-found.ensures.shorter)

pub elements-returns-in_err-found-clause-shorter : goal.elements-returns-in_err-found-clause-shorter
elements-returns-in_err-found-clause-shorter g t c = IfOk-from_err c.from_residual.result _ c.from_residual.ensures.0

pub elements-returns-in_err-found-clause-no_comma : goal.elements-returns-in_err-found-clause-no_comma
elements-returns-in_err-found-clause-no_comma g t c = IfOk-from_err c.from_residual.result _ c.from_residual.ensures.0

pub elements-returns-in_err-push-clause-reads : goal.elements-returns-in_err-push-clause-reads
elements-returns-in_err-push-clause-reads g t c q b k h = refused _ _ c.from_residual-in_err-push.result c.from_residual-in_err-push.ensures.1

pub elements-returns-in_err-push-clause-shorter : goal.elements-returns-in_err-push-clause-shorter
elements-returns-in_err-push-clause-shorter g t c = IfOk-from_err c.from_residual-in_err-push.result _ c.from_residual-in_err-push.ensures.0

pub elements-returns-in_err-push-clause-no_comma : goal.elements-returns-in_err-push-clause-no_comma
elements-returns-in_err-push-clause-no_comma g t c = IfOk-from_err c.from_residual-in_err-push.result _ c.from_residual-in_err-push.ensures.0

pub elements-returns-in-None-clause-shorter : goal.elements-returns-in-None-clause-shorter
elements-returns-in-None-clause-shorter g t c = omega (arith, c.in_ok-found.ensures.shorter, c.loop-items.invariant.within)

pub elements-returns-in-None-clause-no_comma : goal.elements-returns-in-None-clause-no_comma
elements-returns-in-None-clause-no_comma g t c = c.in-None.ensures.first

pub further_primaries-loop-operator-init : goal.further_primaries-loop-operator-init
further_primaries-loop-operator-init g t c = record {
  reads = λ s e k h. rw (c.new-operands.ensures.items, c.split_at.ensures.back) refl;
  within = omega (arith, c.split_at.ensures.back_len);
}

pub further_primaries-loop-operator-smaller : goal.further_primaries-loop-operator-smaller
further_primaries-loop-operator-smaller g t c = omega (arith, c.in-Some.ensures.shorter, c.in_ok-operand.ensures.shorter)

pub further_primaries-returns-in_err-operand-clause-within : goal.further_primaries-returns-in_err-operand-clause-within
further_primaries-returns-in_err-operand-clause-within g t c = IfOk-from_err c.from_residual.result _ c.from_residual.ensures.0

pub further_primaries-returns-in_err-operand-clause-no_product : goal.further_primaries-returns-in_err-operand-clause-no_product
further_primaries-returns-in_err-operand-clause-no_product g t c = IfOk-from_err c.from_residual.result _ c.from_residual.ensures.0

pub further_primaries-returns-in_err-push-clause-reads : goal.further_primaries-returns-in_err-push-clause-reads
further_primaries-returns-in_err-push-clause-reads g t c s e k h = refused _ _ c.from_residual-in_err-push.result c.from_residual-in_err-push.ensures.1

pub further_primaries-returns-in_err-push-clause-within : goal.further_primaries-returns-in_err-push-clause-within
further_primaries-returns-in_err-push-clause-within g t c = IfOk-from_err c.from_residual-in_err-push.result _ c.from_residual-in_err-push.ensures.0

pub further_primaries-returns-in_err-push-clause-no_product : goal.further_primaries-returns-in_err-push-clause-no_product
further_primaries-returns-in_err-push-clause-no_product g t c = IfOk-from_err c.from_residual-in_err-push.result _ c.from_residual-in_err-push.ensures.0

pub further_primaries-returns-clause-reads : goal.further_primaries-returns-clause-reads
further_primaries-returns-clause-reads g t c s e k h = c.loop-operator.invariant.reads s e k h

pub further_primaries-returns-clause-within : goal.further_primaries-returns-clause-within
further_primaries-returns-clause-within g t c = c.loop-operator.invariant.within

pub further_products-loop-operator-init : goal.further_products-loop-operator-init
further_products-loop-operator-init g t c = record {
  reads = λ e k h. rw (c.new-operands.ensures.items, c.split_at.ensures.back) refl;
  within = omega (arith, c.split_at.ensures.back_len);
  no_product = rw c.split_at.ensures.back c.requires.no_product;
}

pub further_products-loop-operator-smaller : goal.further_products-loop-operator-smaller
further_products-loop-operator-smaller g t c = omega (arith, c.in-Some.ensures.shorter, c.in_ok-operand.ensures.shorter)

pub further_products-returns-in_err-operand-clause-within : goal.further_products-returns-in_err-operand-clause-within
further_products-returns-in_err-operand-clause-within g t c = IfOk-from_err c.from_residual.result _ c.from_residual.ensures.0

pub further_products-returns-in_err-operand-clause-no_sum : goal.further_products-returns-in_err-operand-clause-no_sum
further_products-returns-in_err-operand-clause-no_sum g t c = IfOk-from_err c.from_residual.result _ c.from_residual.ensures.0

pub further_products-returns-in_err-operand-clause-no_product : goal.further_products-returns-in_err-operand-clause-no_product
further_products-returns-in_err-operand-clause-no_product g t c = IfOk-from_err c.from_residual.result _ c.from_residual.ensures.0

pub further_products-returns-in_err-push-clause-reads : goal.further_products-returns-in_err-push-clause-reads
further_products-returns-in_err-push-clause-reads g t c e k h = refused _ _ c.from_residual-in_err-push.result c.from_residual-in_err-push.ensures.1

pub further_products-returns-in_err-push-clause-within : goal.further_products-returns-in_err-push-clause-within
further_products-returns-in_err-push-clause-within g t c = IfOk-from_err c.from_residual-in_err-push.result _ c.from_residual-in_err-push.ensures.0

pub further_products-returns-in_err-push-clause-no_sum : goal.further_products-returns-in_err-push-clause-no_sum
further_products-returns-in_err-push-clause-no_sum g t c = IfOk-from_err c.from_residual-in_err-push.result _ c.from_residual-in_err-push.ensures.0

pub further_products-returns-in_err-push-clause-no_product : goal.further_products-returns-in_err-push-clause-no_product
further_products-returns-in_err-push-clause-no_product g t c = IfOk-from_err c.from_residual-in_err-push.result _ c.from_residual-in_err-push.ensures.0

pub further_products-returns-clause-reads : goal.further_products-returns-clause-reads
further_products-returns-clause-reads g t c e k h = c.loop-operator.invariant.reads e k h

pub further_products-returns-clause-within : goal.further_products-returns-clause-within
further_products-returns-clause-within g t c = c.loop-operator.invariant.within

pub further_products-returns-clause-no_product : goal.further_products-returns-clause-no_product
further_products-returns-clause-no_product g t c = c.loop-operator.invariant.no_product

pub in_parens-returns-in_err-inner-clause-shorter : goal.in_parens-returns-in_err-inner-clause-shorter
in_parens-returns-in_err-inner-clause-shorter g t c = IfOk-from_err c.from_residual.result _ c.from_residual.ensures.0

pub in_parens-returns-clause-shorter : goal.in_parens-returns-clause-shorter
in_parens-returns-clause-shorter g t c = IfOk-weaker c.before_sign.result _ _ (λ x s. omega (arith, s, c.in_ok-inner.ensures.shorter)) c.before_sign.ensures.shorter

pub list-returns-in-Some-clause-shorter : goal.list-returns-in-Some-clause-shorter
list-returns-in-Some-clause-shorter g t c = omega (arith, c.in-Some.ensures.shorter)

pub list-returns-in_err-items-clause-shorter : goal.list-returns-in_err-items-clause-shorter
list-returns-in_err-items-clause-shorter g t c = IfOk-from_err c.from_residual.result _ c.from_residual.ensures.0

pub list-returns-in_err-last-clause-shorter : goal.list-returns-in_err-last-clause-shorter
list-returns-in_err-last-clause-shorter g t c = IfOk-from_err c.from_residual-in_err-last.result _ c.from_residual-in_err-last.ensures.0

pub list-returns-clause-reads : goal.list-returns-clause-reads
list-returns-clause-reads g t c b k h =
    goes_made _ _ _ _ _
    (listed_begins b k (placed_views c.args.text.now) c.in_default.ensures.first
    ∙ c.in_ok-items.ensures.reads of_list b k h
    ∙ c.in_ok-last.ensures.reads (views c.in_ok-items.items.items) b k h)
    c.list_that_ends.ensures (λ x is. rw (is.0, is.1) refl)

pub list-returns-clause-shorter : goal.list-returns-clause-shorter
list-returns-clause-shorter g t c =
    holds_after (λ rest. length rest.now < length c.args.text.now) c.in_ok-last.after c.list_that_ends.result _ c.list_that_ends.ensures (λ x is. is.1)
    (omega (arith, c.in_ok-last.ensures.shorter, c.in_ok-items.ensures.shorter))

pub list_end-returns-in-Some-clause-shorter : goal.list_end-returns-in-Some-clause-shorter
list_end-returns-in-Some-clause-shorter g t c = omega (arith, c.in-Some.ensures.shorter)

pub list_end-returns-in_default-after_sign-clause-shorter : goal.list_end-returns-in_default-after_sign-clause-shorter
list_end-returns-in_default-after_sign-clause-shorter g t c = tt

pub list_end-returns-in_err-last-clause-shorter : goal.list_end-returns-in_err-last-clause-shorter
list_end-returns-in_err-last-clause-shorter g t c = IfOk-from_err c.from_residual.result _ c.from_residual.ensures.0

pub list_end-returns-clause-shorter : goal.list_end-returns-clause-shorter
list_end-returns-clause-shorter g t c = IfOk-weaker c.before_sign.result _ _ (λ x s. omega (arith, s, c.in_ok-last.ensures.shorter, c.in-Some-after_sign.ensures.shorter)) c.before_sign.ensures.shorter

pub name_or_call-returns-in_default-clause-reads : goal.name_or_call-returns-in_default-clause-reads
name_or_call-returns-in_default-clause-reads g t c b k h =
    goes_made _ _ _ _ _ (named_alone c.args.word.now b k (placed_views c.args.text.now) c.in_default.ensures.first)
    c.call_of.ensures (λ x is. rw (is.0, is.1, c.new.ensures.items) refl)

pub name_or_call-returns-in_default-clause-shorter : goal.name_or_call-returns-in_default-clause-shorter
name_or_call-returns-in_default-clause-shorter g t c =
    holds_after (λ rest. length rest.now ≤ length c.args.text.now) c.args.text c.call_of.result _ c.call_of.ensures (λ x is. is.1) (omega arith)

pub name_or_call-returns-then-room-eq0-clause-shorter : goal.name_or_call-returns-then-room-eq0-clause-shorter
name_or_call-returns-then-room-eq0-clause-shorter g t c = tt

pub name_or_call-returns-in_err-args-clause-shorter : goal.name_or_call-returns-in_err-args-clause-shorter
name_or_call-returns-in_err-args-clause-shorter g t c = IfOk-from_err c.from_residual.result _ c.from_residual.ensures.0

pub name_or_call-returns-in_err-args-2-clause-shorter : goal.name_or_call-returns-in_err-args-2-clause-shorter
name_or_call-returns-in_err-args-2-clause-shorter g t c = IfOk-from_err c.from_residual-in_err-args-2.result _ c.from_residual-in_err-args-2.ensures.0

pub name_or_call-returns-clause-reads : goal.name_or_call-returns-clause-reads
name_or_call-returns-clause-reads g t c b k h =
    let w = c.args.word.now in
    goes_made _ _ _ _ _
    (ap (run limited_room (named w b k)) c.in-Some.ensures.first.are
    ∙ opened_at k (want no_prefix (elements (of_call w) [] b ∷ k)) _ _ (omega (arith, h, c.if-room-eq0.false))
    ∙ c.in_ok-args.ensures.reads (of_call w) b k (omega (arith, h, c.if-room-eq0.false))
    ∙ ap (elements_verdict (of_call w) (views c.in_ok-args.args.items) b k) c.in_ok-args-2.ensures.first.1.are)
    c.call_of-2.ensures (λ x is. rw (is.0, is.1, c.in_ok-args-2.ensures.first.0) refl)

pub name_or_call-returns-clause-shorter : goal.name_or_call-returns-clause-shorter
name_or_call-returns-clause-shorter g t c =
    holds_after (λ rest. length rest.now ≤ length c.args.text.now) c.in_ok-args-2.after c.call_of-2.result _ c.call_of-2.ensures (λ x is. is.1)
    (omega (arith, c.in-Some.ensures.shorter, c.in_ok-args.ensures.shorter, c.in_ok-args-2.ensures.shorter))

pub sum-returns-in_err-first-clause-shorter : goal.sum-returns-in_err-first-clause-shorter
sum-returns-in_err-first-clause-shorter g t c = IfOk-from_err c.from_residual.result _ c.from_residual.ensures.0

pub sum-returns-in_err-first-clause-no_sum : goal.sum-returns-in_err-first-clause-no_sum
sum-returns-in_err-first-clause-no_sum g t c = IfOk-from_err c.from_residual.result _ c.from_residual.ensures.0

pub sum-returns-in_err-first-clause-no_product : goal.sum-returns-in_err-first-clause-no_product
sum-returns-in_err-first-clause-no_product g t c = IfOk-from_err c.from_residual.result _ c.from_residual.ensures.0

pub sum-returns-in_err-first-2-clause-reads : goal.sum-returns-in_err-first-2-clause-reads
sum-returns-in_err-first-2-clause-reads g t c k h =
    halts_second _ _ _ c.from_residual-in_err-first-2.result c.further_products.result _ c.in_err-first-2.field-0.0 c.from_residual-in_err-first-2.ensures.1 c.in_err-first-2.ensures
    (c.in_ok-first.ensures.reads None k h) (c.further_products.ensures.reads (view c.in_ok-first.first) k h)

pub sum-returns-in_err-first-2-clause-shorter : goal.sum-returns-in_err-first-2-clause-shorter
sum-returns-in_err-first-2-clause-shorter g t c = IfOk-from_err c.from_residual-in_err-first-2.result _ c.from_residual-in_err-first-2.ensures.0

pub sum-returns-in_err-first-2-clause-no_sum : goal.sum-returns-in_err-first-2-clause-no_sum
sum-returns-in_err-first-2-clause-no_sum g t c = IfOk-from_err c.from_residual-in_err-first-2.result _ c.from_residual-in_err-first-2.ensures.0

pub sum-returns-in_err-first-2-clause-no_product : goal.sum-returns-in_err-first-2-clause-no_product
sum-returns-in_err-first-2-clause-no_product g t c = IfOk-from_err c.from_residual-in_err-first-2.result _ c.from_residual-in_err-first-2.ensures.0

pub sum-returns-clause-reads : goal.sum-returns-clause-reads
sum-returns-clause-reads g t c k h =
    goes_made _ _ _ _ _
    (c.in_ok-first.ensures.reads None k h
    ∙ goes_to _ c.further_products.result _ _ c.in_ok-first-2.ensures.1 (c.further_products.ensures.reads (view c.in_ok-first.first) k h))
    c.chain_of.ensures (λ x is. rw (is.0, is.1, c.in_ok-first-2.ensures.0) refl)

pub sum-returns-clause-shorter : goal.sum-returns-clause-shorter
sum-returns-clause-shorter g t c =
    holds_after (λ rest. length rest.now < length c.args.text.now) c.in_ok-first-2.rest c.chain_of.result _ c.chain_of.ensures (λ x is. is.1)
    (let within = IfOk-at_ok _ c.in_ok-first-2.ensures.1 c.further_products.ensures.within in omega (arith, within, c.in_ok-first.ensures.shorter))

pub sum-returns-clause-no_sum : goal.sum-returns-clause-no_sum
sum-returns-clause-no_sum g t c =
    holds_after (λ rest. NoAdditive (placed_views rest.now)) c.in_ok-first-2.rest c.chain_of.result _ c.chain_of.ensures (λ x is. is.1)
    (IfOk-at_ok _ c.in_ok-first-2.ensures.1 c.further_products.ensures.no_sum)

pub sum-returns-clause-no_product : goal.sum-returns-clause-no_product
sum-returns-clause-no_product g t c =
    holds_after (λ rest. NoMultiplicative (placed_views rest.now)) c.in_ok-first-2.rest c.chain_of.result _ c.chain_of.ensures (λ x is. is.1)
    (IfOk-at_ok _ c.in_ok-first-2.ensures.1 c.further_products.ensures.no_product)

pub product-returns-in_err-first-clause-shorter : goal.product-returns-in_err-first-clause-shorter
product-returns-in_err-first-clause-shorter g t c = IfOk-from_err c.from_residual.result _ c.from_residual.ensures.0

pub product-returns-in_err-first-clause-no_product : goal.product-returns-in_err-first-clause-no_product
product-returns-in_err-first-clause-no_product g t c = IfOk-from_err c.from_residual.result _ c.from_residual.ensures.0

pub product-returns-in_err-first-2-clause-reads : goal.product-returns-in_err-first-2-clause-reads
product-returns-in_err-first-2-clause-reads g t c s k h =
    halts_second _ _ _ c.from_residual-in_err-first-2.result c.further_primaries.result _ c.in_err-first-2.field-0.0 c.from_residual-in_err-first-2.ensures.1 c.in_err-first-2.ensures
    (c.in_ok-first.ensures.reads (record { sum = s; product = None }) k h) (c.further_primaries.ensures.reads s (view c.in_ok-first.first) k h)

pub product-returns-in_err-first-2-clause-shorter : goal.product-returns-in_err-first-2-clause-shorter
product-returns-in_err-first-2-clause-shorter g t c = IfOk-from_err c.from_residual-in_err-first-2.result _ c.from_residual-in_err-first-2.ensures.0

pub product-returns-in_err-first-2-clause-no_product : goal.product-returns-in_err-first-2-clause-no_product
product-returns-in_err-first-2-clause-no_product g t c = IfOk-from_err c.from_residual-in_err-first-2.result _ c.from_residual-in_err-first-2.ensures.0

pub product-returns-clause-reads : goal.product-returns-clause-reads
product-returns-clause-reads g t c s k h =
    goes_made _ _ _ _ _
    (c.in_ok-first.ensures.reads (record { sum = s; product = None }) k h
    ∙ goes_to _ c.further_primaries.result _ _ c.in_ok-first-2.ensures.1 (c.further_primaries.ensures.reads s (view c.in_ok-first.first) k h))
    c.chain_of.ensures (λ x is. rw (is.0, is.1, c.in_ok-first-2.ensures.0) refl)

pub product-returns-clause-shorter : goal.product-returns-clause-shorter
product-returns-clause-shorter g t c =
    holds_after (λ rest. length rest.now < length c.args.text.now) c.in_ok-first-2.rest c.chain_of.result _ c.chain_of.ensures (λ x is. is.1)
    (let within = IfOk-at_ok _ c.in_ok-first-2.ensures.1 c.further_primaries.ensures.within in omega (arith, within, c.in_ok-first.ensures.shorter))

pub product-returns-clause-no_product : goal.product-returns-clause-no_product
product-returns-clause-no_product g t c =
    holds_after (λ rest. NoMultiplicative (placed_views rest.now)) c.in_ok-first-2.rest c.chain_of.result _ c.chain_of.ensures (λ x is. is.1)
    (IfOk-at_ok _ c.in_ok-first-2.ensures.1 c.further_primaries.ensures.no_product)

pub further_primaries-returns-clause-no_product : goal.further_primaries-returns-clause-no_product
further_primaries-returns-clause-no_product g t c = c.in_default.ensures.first

pub further_products-returns-clause-no_sum : goal.further_products-returns-clause-no_sum
further_products-returns-clause-no_sum g t c = c.in_default.ensures.first

pub primary-returns-in_default-clause-shorter : goal.primary-returns-in_default-clause-shorter
primary-returns-in_default-clause-shorter g t c = tt

pub primary-returns-then-room-eq0-clause-shorter : goal.primary-returns-then-room-eq0-clause-shorter
primary-returns-then-room-eq0-clause-shorter g t c = tt

pub primary-returns-then-room-eq0-2-clause-shorter : goal.primary-returns-then-room-eq0-2-clause-shorter
primary-returns-then-room-eq0-2-clause-shorter g t c = tt

pub primary-returns-in-None-clause-shorter : goal.primary-returns-in-None-clause-shorter
primary-returns-in-None-clause-shorter g t c = tt

pub primary-returns-in_default-token-clause-shorter : goal.primary-returns-in_default-token-clause-shorter
primary-returns-in_default-token-clause-shorter g t c = tt

pub primary-returns-in-Some-number-clause-shorter : goal.primary-returns-in-Some-number-clause-shorter
primary-returns-in-Some-number-clause-shorter g t c = omega (arith, c.in-Some.ensures.shorter)

pub primary-returns-in-Variable-clause-shorter : goal.primary-returns-in-Variable-clause-shorter
primary-returns-in-Variable-clause-shorter g t c =
    holds_after (λ rest. length rest.now < length c.args.text.now) c.in-Some.after c.variable.result _ c.variable.ensures (λ x is. is.1) (omega (arith, c.in-Some.ensures.shorter))

pub primary-returns-in-Additive-Minus-clause-shorter : goal.primary-returns-in-Additive-Minus-clause-shorter
primary-returns-in-Additive-Minus-clause-shorter g t c = IfOk-weaker c.negative_number.result _ _ (λ x s. omega (arith, s, c.in-Some.ensures.shorter)) c.negative_number.ensures.shorter

pub primary-returns-in-Name-clause-shorter : goal.primary-returns-in-Name-clause-shorter
primary-returns-in-Name-clause-shorter g t c = IfOk-weaker c.name_or_call.result _ _ (λ x s. omega (arith, s, c.in-Some.ensures.shorter)) c.name_or_call.ensures.shorter

pub primary-returns-else-room-eq0-clause-shorter : goal.primary-returns-else-room-eq0-clause-shorter
primary-returns-else-room-eq0-clause-shorter g t c = IfOk-weaker c.in_parens.result _ _ (λ x s. omega (arith, s, c.in-Some.ensures.shorter)) c.in_parens.ensures.shorter

pub primary-returns-else-room-eq0-2-clause-shorter : goal.primary-returns-else-room-eq0-2-clause-shorter
primary-returns-else-room-eq0-2-clause-shorter g t c = IfOk-weaker c.list.result _ _ (λ x s. omega (arith, s, c.in-Some.ensures.shorter)) c.list.ensures.shorter

pub primary-returns-in_default-clause-reads : goal.primary-returns-in_default-clause-reads
primary-returns-in_default-clause-reads g t c b k h = rw c.in_default.ensures.first refl

pub primary-returns-in-Variable-clause-reads : goal.primary-returns-in-Variable-clause-reads
primary-returns-in-Variable-clause-reads g t c b k h =
    goes_made _ _ _ _ _ (ap (run limited_room (want b k)) (begins_so _ c.in-Some.first _ _ c.in-Some.ensures.first c.in-Variable.is))
    c.variable.ensures (λ x is. rw (is.0, is.1) refl)

pub primary-returns-in-Name-clause-reads : goal.primary-returns-in-Name-clause-reads
primary-returns-in-Name-clause-reads g t c b k h =
    goes_on _ _ _ _ (ap (run limited_room (want b k)) (begins_so _ c.in-Some.first _ _ c.in-Some.ensures.first c.in-Name.is)) (c.name_or_call.ensures.reads b k h)

pub primary-returns-in-Additive-Minus-clause-reads : goal.primary-returns-in-Additive-Minus-clause-reads
primary-returns-in-Additive-Minus-clause-reads g t c b k h =
    goes_on _ _ _ _ (ap (run limited_room (want b k)) (begins_so _ c.in-Some.first _ (Additive Minus) c.in-Some.ensures.first (c.in-Additive-Minus.is ∙ ap Additive (rw c.in-Additive-Minus.is at c.in-Additive-Minus.field-0-is)))) (c.negative_number.ensures.reads b k)

pub primary-returns-else-room-eq0-clause-reads : goal.primary-returns-else-room-eq0-clause-reads
primary-returns-else-room-eq0-clause-reads g t c b k h =
    goes_on _ _ _ _
    (ap (run limited_room (want b k)) (begins_so _ c.in-Some.first _ (Sign Open) c.in-Some.ensures.first (c.in-Sign-Open.is ∙ ap Sign (rw c.in-Sign-Open.is at c.in-Sign-Open.field-0-is)))
    ∙ opened_at k (want no_prefix (paren b ∷ k)) _ _ (omega (arith, h, c.if-room-eq0.false)))
    (c.in_parens.ensures.reads b k (omega (arith, h, c.if-room-eq0.false)))

pub primary-returns-then-room-eq0-clause-reads : goal.primary-returns-then-room-eq0-clause-reads
primary-returns-then-room-eq0-clause-reads g t c b k h =
    let first = begins_so _ c.in-Some.first _ (Sign Open) c.in-Some.ensures.first (c.in-Sign-Open.is ∙ ap Sign (rw c.in-Sign-Open.is at c.in-Sign-Open.field-0-is)) in
    ap (run limited_room (want b k)) first ∙ deep_at k (want no_prefix (paren b ∷ k)) _ _ (omega (arith, h, c.if-room-eq0.true)) ∙ ap too_deep (sym first)

pub primary-returns-else-room-eq0-2-clause-reads : goal.primary-returns-else-room-eq0-2-clause-reads
primary-returns-else-room-eq0-2-clause-reads g t c b k h =
    goes_on _ _ _ _
    (ap (run limited_room (want b k)) (begins_so _ c.in-Some.first _ (Sign OpenList) c.in-Some.ensures.first (c.in-Sign-OpenList.is ∙ ap Sign (rw c.in-Sign-OpenList.is at c.in-Sign-OpenList.field-0-is)))
    ∙ opened_at k (listed b k) _ _ (omega (arith, h, c.if-room-eq0-2.false)))
    (c.list.ensures.reads b k (omega (arith, h, c.if-room-eq0-2.false)))

pub primary-returns-then-room-eq0-2-clause-reads : goal.primary-returns-then-room-eq0-2-clause-reads
primary-returns-then-room-eq0-2-clause-reads g t c b k h =
    let first = begins_so _ c.in-Some.first _ (Sign OpenList) c.in-Some.ensures.first (c.in-Sign-OpenList.is ∙ ap Sign (rw c.in-Sign-OpenList.is at c.in-Sign-OpenList.field-0-is)) in
    ap (run limited_room (want b k)) first ∙ deep_at k (listed b k) _ _ (omega (arith, h, c.if-room-eq0-2.true)) ∙ ap too_deep (sym first)

pub name_or_call-returns-then-room-eq0-clause-reads : goal.name_or_call-returns-then-room-eq0-clause-reads
name_or_call-returns-then-room-eq0-clause-reads g t c b k h =
    let w = c.args.word.now in
    let first = c.in-Some.ensures.first.are in
    ap (run limited_room (named w b k)) first ∙ deep_at k (want no_prefix (elements (of_call w) [] b ∷ k)) _ _ (omega (arith, h, c.if-room-eq0.true)) ∙ ap too_deep (sym first)
