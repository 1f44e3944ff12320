use Rattle.chr_read.specs.SyntaxView.{program_view}
use Rattle.chr_rules.specs.ProgramView.{checked_view}
use Rattle.std.proofs.lemmas.Bool.{false≢true}
use Rattle.chr_check.proofs.Refused.{no_program, one_program}
use Rattle.chr_check.proofs.refusal.program_of.Goals as goal

pub returns-in-Ok-build : goal.returns-in-Ok-build
returns-in-Ok-build g c =
    let s = program_view c.in-Ok.syntax in (
      record { spelled = s; read = c.in-Ok.ensures.read; is_checked = c.in-Ok-build.ensures.accepted },
      λ d a. one_program c.args.text.now s (checked_view c.in-Ok-build.program) d c.in-Ok.ensures.only c.in-Ok-build.ensures.accepted a,
    )

pub returns-in-Err-2-build : goal.returns-in-Err-2-build
returns-in-Err-2-build g c =
    no_program c.args.text.now (program_view c.in-Ok.syntax) c.in-Err-build.error c.in-Ok.ensures.only c.in-Err-build.ensures.refused (λ m. false≢true (rw m at c.if-eq-2.ensures))
