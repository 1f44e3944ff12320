-- What no words and two words ask for.
use Rattle.std.proofs.Common.{◌≡◌, ◌∙◌, ◌&&◌, ◌==◌, ℕ, Bool, true, false, cond, refl, sym, ap, List, [], ◌∷◌, Some, None, true≢false}
use Rattle.std.specs.Prelude.{option_and_then, option_map}
use Rattle.std.specs.Str.{bytes_eq}
use Rattle.clap.specs.Lexer.{long_of_rest, short_of_rest, strip_byte}
use Rattle.chr_words.specs.declared.words.Request.{Request}
use Rattle.chr_words.specs.declared.words.Request.TheVariants.{Run, Help, Version, Refused}
use Rattle.chr_words.specs.Answer.{IsAnswer, IsRun}
use Rattle.chr_words.specs.Words.{Asks, Reading, RunWords, Values, asks_from, asks_of, asks_after, is_plain, no_values, no_words, number_of, operand_step, run, step, parts_step}
use Rattle.std.proofs.lemmas.Bool.{not-true}

abbrev reading : RunWords → Reading
reading run_words = record { run_words = run_words; awaits = None; plain = false }

plain_step : (run_words : RunWords) (word : List ℕ) → is_plain word ≡ true → step (reading run_words) word ≡ operand_step (reading run_words) word run_words.program run_words.query
plain_step run_words [] e = refl
plain_step run_words (c ∷ cs) e =
    ap (λ b. parts_step (reading run_words) (c ∷ cs) (b && bytes_eq cs (45 ∷ [])) (option_and_then long_of_rest (option_and_then (strip_byte 45) (cond b (Some cs) None)))
    (option_and_then short_of_rest (cond b (Some cs) None))) (not-true (c == 45) e)

pub asks_of-none : asks_of [] ≡ run no_words
unfolding asks_from
asks_of-none = refl

pub asks_of-two : (p q : List ℕ) → is_plain p ≡ true → is_plain q ≡ true → asks_of (p ∷ q ∷ []) ≡ run (record { program = Some p; query = Some q; values = no_values })
unfolding asks_from
asks_of-two p q plain_p plain_q =
    ap (λ s. asks_after s (λ r. asks_from r (q ∷ []))) (plain_step no_words p plain_p)
    ∙ ap (λ s. asks_after s (λ r. asks_from r [])) (plain_step (record { program = Some p; query = None; values = no_values }) q plain_q)

abbrev said_in : Asks → RunWords
said_in (run run_words) = run_words
said_in _ = no_words

abbrev is_run : Asks → Bool
is_run (run run_words) = true
is_run _ = false

-- no option is said
run_only : (words : List (List ℕ)) (run_words : RunWords) (r : Request) → asks_of words ≡ run run_words → run_words.values ≡ no_values → IsAnswer words r
    → IsRun run_words.program run_words.query r
run_only words run_words (Run program query budget workers recorded replay totals) e none (found, is, p, q, b, w, c, f, t) =
    let same : found ≡ run_words = ap said_in (sym is ∙ e) in (
      p ∙ ap (λ (s : RunWords). s.program) same,
      q ∙ ap (λ (s : RunWords). s.query) same,
      b ∙ ap (λ (v : Values). option_map number_of v.budget) (said same),
      w ∙ ap (λ (v : Values). option_map number_of v.workers) (said same),
      c ∙ ap (λ (v : Values). v.recorded) (said same),
      f ∙ ap (λ (v : Values). v.replay) (said same),
      t ∙ ap (λ (v : Values). v.totals) (said same),
    )
  where
    said : {found : RunWords} → found ≡ run_words → found.values ≡ no_values
    said same = ap (λ (s : RunWords). s.values) same ∙ none
run_only words run_words (Help text) e none is = absurd (true≢false (ap is_run (sym e ∙ is)))
run_only words run_words Version e none is = absurd (true≢false (ap is_run (sym e ∙ is)))
run_only words run_words (Refused text) e none is = absurd (true≢false (ap is_run (sym e ∙ is)))

module _ (words : List (List ℕ)) (r : Request) (h : IsAnswer words r) where
  pub none_asked : words ≡ [] → IsRun None None r
  none_asked e = run_only words no_words r (ap asks_of e ∙ asks_of-none) refl h

  pub two_asked : (p q : List ℕ) → words ≡ p ∷ q ∷ [] → is_plain p ≡ true → is_plain q ≡ true → IsRun (Some p) (Some q) r
  two_asked p q e plain_p plain_q = run_only words (record { program = Some p; query = Some q; values = no_values }) r (ap asks_of e ∙ asks_of-two p q plain_p plain_q) refl h
