-- Each part adds its rules.
use Rattle.std.proofs.Common.{◌∙◌, ap, ap₂}
use Rattle.std.proofs.lemmas.Result.{IfOk-weaker}
use Rattle.clap.specs.Words.{with_rule}
use Rattle.std.specs.Prelude.{fold}
use Rattle.chr_words.specs.App.{text_rules, number_rules, file_rules}
use Rattle.chr_words.proofs.words.chr_command.Goals as goal

pub returns : goal.returns
returns c =
    let texts = c.in_ok-command.ensures ∙ ap (λ a. fold with_rule a text_rules) c.bare_command.ensures in
    let numbers = c.in_ok-command-2.ensures ∙ ap (λ a. fold with_rule a number_rules) texts in
    let files = c.in_ok-with_files.ensures ∙ ap (λ a. fold with_rule a file_rules) numbers in
    IfOk-weaker c.arg.result _ _ (λ r h. h.shape c.totals_arg.ensures.local ∙ ap₂ with_rule files c.totals_arg.ensures.rule) c.arg.ensures
