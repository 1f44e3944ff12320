-- Each argument adds its rule.
use Rattle.std.proofs.Common.{◌≡◌, ◌∙◌, ap₂, refl}
use Rattle.std.proofs.lemmas.Result.{IfOk-weaker}
use Rattle.clap.specs.Words.{app_of, with_rule}
use Rattle.chr_words.proofs.words.with_numbers.Goals as goal

pub returns : goal.returns
returns c =
    let first : app_of c.in_ok-arg.field-0 ≡ _ = c.in_ok-arg.ensures.shape c.budget_arg.ensures.local ∙ ap₂ with_rule refl c.budget_arg.ensures.rule in
    IfOk-weaker c.arg-2.result _ _ (λ r h. h.shape c.workers_arg.ensures.local ∙ ap₂ with_rule first c.workers_arg.ensures.rule) c.arg-2.ensures
