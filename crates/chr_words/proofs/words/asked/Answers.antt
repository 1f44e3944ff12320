-- What clap answers is what the words ask for.
use Rattle.std.proofs.Common.{◌≡◌, ◌∙◌, false, ap, map, subst, sym, List, ℕ, IfOk}
use Rattle.std.specs.String.{string_bytes}
use Rattle.std.proofs.lemmas.Result.{IfOk-weaker}
use Rattle.clap.specs.Words.{App, fault_of, found_of, is_simple, is_simple_and_free, kind_of, matches_of}
use Rattle.clap.specs.Kinds.{HasKind}
use Rattle.chr_words.specs.Answer.{IsAnswer}
use Rattle.chr_words.specs.Words.{is_version}
use Rattle.chr_words.proofs.Answered.{answered_refusal, answered_run}
use Rattle.chr_words.proofs.Few.{none_asked, two_asked}
use Rattle.chr_words.proofs.Walked.{chr_is_free, chr_is_simple}
use Rattle.chr_words.proofs.words.asked.Goals as goal

pub returns-in-Ok : goal.returns-in-Ok
returns-in-Ok c =
    let words : List (List ℕ) = map string_bytes c.args.words.now in
    let other : is_version words ≡ false = sym c.asks_version.ensures ∙ c.if-asks_version.false in
    let app = c.in_ok-chr_command.ensures in
    let asks : IsAnswer words c.run_of.result = answered_run words (found_of c.in-Ok.matches) c.run_of.result other
    (ap (λ (a : App). fault_of a words) (sym app) ∙ c.in-Ok.ensures.kinds (ap is_simple_and_free app ∙ chr_is_free))
    ((c.in-Ok.ensures.matches (ap is_simple app ∙ chr_is_simple)).0 ∙ ap (λ (a : App). matches_of a words) app)
    c.run_of.ensures in
    record {
      asks = asks;
      no_words = λ e. none_asked words c.run_of.result asks (ap (map string_bytes) e);
      two_words = two_asked words c.run_of.result asks;
    }

pub returns-in-Err : goal.returns-in-Err
returns-in-Err c =
    let words : List (List ℕ) = map string_bytes c.args.words.now in
    let other : is_version words ≡ false = sym c.asks_version.ensures ∙ c.if-asks_version.false in
    let app = c.in_ok-chr_command.ensures in
    let has = subst (λ (a : App). HasKind (fault_of a words) c.in-Err.error) app (c.in-Err.ensures.kinds (ap is_simple_and_free app ∙ chr_is_free)) in
    let asks : IfOk c.refusal_of.result (IsAnswer words) =
    IfOk-weaker c.refusal_of.result _ _ (λ r says. answered_refusal words (kind_of c.in-Err.error) r other has says) c.refusal_of.ensures in
    record {
      asks = asks;
      no_words = λ e. IfOk-weaker c.refusal_of.result _ _ (λ r h. none_asked words r h (ap (map string_bytes) e)) asks;
      two_words = λ p q e plain_p plain_q. IfOk-weaker c.refusal_of.result _ _ (λ r h. two_asked words r h p q e plain_p plain_q) asks;
    }
