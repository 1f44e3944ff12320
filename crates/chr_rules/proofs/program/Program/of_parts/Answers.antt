use Rattle.std.proofs.Common.{◌∙◌, ap}
use Rattle.chr_semantics.specs.Checked.{checked}
use Rattle.chr_semantics.specs.Program.{occurrences}
use Rattle.chr_read.specs.SyntaxView.{part_views}
use Rattle.chr_rules.specs.Checks.{IsError}
use Rattle.chr_rules.specs.Index.{pairs_of}
use Rattle.chr_rules.specs.RuleView.{rules_view}
use Rattle.chr_rules.proofs.Each.{err_answers, memory_answers}
use Rattle.chr_rules.proofs.program.Program.of_parts.Goals as goal

pub returns-in_err-declared-clause-refused : goal.returns-in_err-declared-clause-refused
returns-in_err-declared-clause-refused g c =
    err_answers c.from_residual-in_err-declared.result c.in_err-declared.field-0.0 (λ e. IsError e (checked (part_views c.args.parts.now))) c.from_residual-in_err-declared.ensures.1 c.in_err-declared.ensures.refused

pub returns-in_err-index-clause-refused : goal.returns-in_err-index-clause-refused
returns-in_err-index-clause-refused g c =
    let parts = part_views c.args.parts.now in
    err_answers c.from_residual-in_err-index.result _ (λ e. IsError e (checked parts)) c.from_residual-in_err-index.ensures.1 (memory_answers (checked parts))

pub invariant_of-result : goal.invariant_of-result
invariant_of-result g c = record {
  listed = λ f. c.in_ok-index.ensures f ∙ ap (λ rs. pairs_of (occurrences (rules_view rs) f)) c.as_slice.ensures.value;
  bounded = c.in_ok-declared.ensures.bounded;
  few = c.in_ok-declared.ensures.few;
}
