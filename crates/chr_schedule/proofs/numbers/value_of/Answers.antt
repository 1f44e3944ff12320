-- The value stands for all digits in the end, and is too large from where a digit makes it so.
use Rattle.std.proofs.Common.{arith}
use Rattle.chr_schedule.proofs.Digits.{value_read, value_too_large}
use Rattle.chr_schedule.proofs.numbers.value_of.Goals as goal

pub returns-in_err-value : goal.returns-in_err-value
returns-in_err-value c =
    rw c.from_residual.ensures (value_too_large c.args.digits.now c.loop-digit.digit-index c.loop-digit.value c.loop-digit-test.true c.loop-digit.invariant.whole c.in_err-value.ensures)

pub returns : goal.returns
returns c = value_read c.args.digits.now c.loop-digit.digit-index c.loop-digit.value (omega arith) c.loop-digit.invariant.whole c.loop-digit.invariant.small
