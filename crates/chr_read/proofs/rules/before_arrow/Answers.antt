use Rattle.std.proofs.Common.{refl}
use Rattle.std.proofs.lemmas.Result.{IfOk-from_err}
use Rattle.chr_read.proofs.Halted.{halts_so}
use Rattle.chr_read.proofs.rules.before_arrow.Goals as goal

pub returns-in_err-arrow-clause-heads : goal.returns-in_err-arrow-clause-heads
returns-in_err-arrow-clause-heads g c = IfOk-from_err c.from_residual.result _ c.from_residual.ensures.0

pub returns-in_err-arrow-clause-arrow : goal.returns-in_err-arrow-clause-arrow
returns-in_err-arrow-clause-arrow g c = halts_so _ _ c.from_residual.result c.in_err-arrow.field-0.0 c.from_residual.ensures.1 c.in_err-arrow.ensures.first

pub returns-in_err-arrow-clause-shorter : goal.returns-in_err-arrow-clause-shorter
returns-in_err-arrow-clause-shorter g c = IfOk-from_err c.from_residual.result _ c.from_residual.ensures.0

pub returns-clause-heads : goal.returns-clause-heads
returns-clause-heads g c = (refl, refl)

pub returns-clause-arrow : goal.returns-clause-arrow
returns-clause-arrow g c = c.in_ok-arrow.ensures.first

pub returns-clause-shorter : goal.returns-clause-shorter
returns-clause-shorter g c = c.in_ok-arrow.ensures.shorter
