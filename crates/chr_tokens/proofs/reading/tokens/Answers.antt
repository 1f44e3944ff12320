-- Each arm of the loop is a step of the tokens.
use Rattle.std.proofs.Common.{◌∙◌, arith, sym}
use Rattle.std.proofs.lemmas.List.{map_push}
use Rattle.std.proofs.lemmas.Result.{IfOk-from_err, IfOk-weaker}
use Rattle.chr_tokens.specs.TokenView.{token_view}
use Rattle.chr_tokens.proofs.Lasts.{ends_so, length_with_last, views_with_last}
use Rattle.chr_tokens.proofs.Cuts.{start, skip, take_one, done, stop}
use Rattle.chr_tokens.proofs.reading.tokens.Goals as goal

pub loop-token-init : goal.loop-token-init
loop-token-init g c = record {
  whole = rw c.new-found.ensures.items (start c.args.text.now);
  few = rw c.new-found.ensures.items (omega arith);
  line = omega arith;
  column = omega arith;
  from_one = omega arith;
}

pub returns-in-Ended-clause-are : goal.returns-in-Ended-clause-are
returns-in-Ended-clause-are g c = IfOk-weaker c.with_last.result _ _ (λ all e. views_with_last _ _ _ e ∙ done _ _ _ _ _ c.loop-token.invariant.whole (sym c.in-Ended.ensures.is)) c.with_last.ensures

pub loop-token-preserved-in-Blank : goal.loop-token-preserved-in-Blank
loop-token-preserved-in-Blank g c =
    let cut = c.past.ensures in
    record {
      whole = skip _ _ _ _ _ _ _ c.in-Blank.n c.loop-token.invariant.whole (sym c.in-Blank.ensures.is) (record { len = c.in-Blank.ensures.within; rest_is = cut.rest; place_is = cut.place });
      few = omega arith;
      line = omega arith;
      column = omega arith;
      from_one = cut.from_one;
    }

pub loop-token-preserved : goal.loop-token-preserved
loop-token-preserved g c =
    let cut = c.past-in-Token.ensures in
    record {
      whole = rw (c.in_ok-push-in-Token.ensures.items, map_push, c.is_minus-signed.ensures)
          (take_one _ _ _ _ _ _ _ (token_view c.in-Token.token) c.in-Token.n c.loop-token.invariant.whole (sym c.in-Token.ensures.is) (record { len = c.in-Token.ensures.within; rest_is = cut.rest; place_is = cut.place }));
      few = omega (arith, c.in_ok-push-in-Token.ensures.len, c.in-Token.ensures.within.0);
      line = omega arith;
      column = omega arith;
      from_one = cut.from_one;
    }

pub returns-in-Broken-clause-are : goal.returns-in-Broken-clause-are
returns-in-Broken-clause-are g c = IfOk-weaker c.with_last-in-Broken.result _ _ (λ all e. views_with_last _ _ _ e ∙ stop _ _ _ _ _ _ c.loop-token.invariant.whole (sym c.in-Broken.ensures.is)) c.with_last-in-Broken.ensures

pub returns-in-Ended-clause-last : goal.returns-in-Ended-clause-last
returns-in-Ended-clause-last g c = IfOk-weaker c.with_last.result _ _ (λ all e. rw e (ends_so _ _ tt)) c.with_last.ensures

pub returns-in-Broken-clause-last : goal.returns-in-Broken-clause-last
returns-in-Broken-clause-last g c = IfOk-weaker c.with_last-in-Broken.result _ _ (λ all e. rw e (ends_so _ _ tt)) c.with_last-in-Broken.ensures

pub returns-in-Ended-clause-few : goal.returns-in-Ended-clause-few
returns-in-Ended-clause-few g c = IfOk-weaker c.with_last.result _ _ (λ all e. omega (arith, length_with_last _ _ _ e, c.loop-token.invariant.few)) c.with_last.ensures

pub returns-in-Broken-clause-few : goal.returns-in-Broken-clause-few
returns-in-Broken-clause-few g c = IfOk-weaker c.with_last-in-Broken.result _ _ (λ all e. omega (arith, length_with_last _ _ _ e, c.loop-token.invariant.few)) c.with_last-in-Broken.ensures

pub returns-in_err-push-in-Token-clause-are : goal.returns-in_err-push-in-Token-clause-are
returns-in_err-push-in-Token-clause-are g c = IfOk-from_err c.from_residual.result _ c.from_residual.ensures.0

pub returns-in_err-push-in-Token-clause-few : goal.returns-in_err-push-in-Token-clause-few
returns-in_err-push-in-Token-clause-few g c = IfOk-from_err c.from_residual.result _ c.from_residual.ensures.0

pub returns-in_err-push-in-Token-clause-last : goal.returns-in_err-push-in-Token-clause-last
returns-in_err-push-in-Token-clause-last g c = IfOk-from_err c.from_residual.result _ c.from_residual.ensures.0

pub loop-token-smaller-in-Blank : goal.loop-token-smaller-in-Blank
loop-token-smaller-in-Blank g c = omega (arith, c.past.ensures.rest_len, c.in-Blank.ensures.within.0)

pub loop-token-smaller : goal.loop-token-smaller
loop-token-smaller g c = omega (arith, c.past-in-Token.ensures.rest_len, c.in-Token.ensures.within.0)
