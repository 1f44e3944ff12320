use Rattle.std.proofs.Common.{◌≡◌, Ok, subst}
use Rattle.std.specs.Prelude.{IfErr, IfOk}
use Rattle.chr_semantics.specs.Checked.{checked}
use Rattle.chr_read.specs.SyntaxView.{part_views}
use Rattle.chr_rules.specs.Checks.{IsError}
use Rattle.chr_rules.specs.ProgramView.{checked_view}
use Rattle.chr_rules.proofs.program.Program.build.Goals as goal

pub returns-clause-accepted : goal.returns-clause-accepted
returns-clause-accepted g c =
    subst (λ ps. IfOk c.of_parts.result (λ program. checked (part_views ps) ≡ Ok (checked_view program))) c.as_slice.ensures.value c.of_parts.ensures.accepted

pub returns-clause-refused : goal.returns-clause-refused
returns-clause-refused g c =
    subst (λ ps. IfErr c.of_parts.result (λ e. IsError e (checked (part_views ps)))) c.as_slice.ensures.value c.of_parts.ensures.refused
