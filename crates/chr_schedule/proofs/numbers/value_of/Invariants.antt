-- The value of all digits is that of the digits read so far, with the others after them.
use Rattle.std.proofs.Common.{◌≡◌, ◌≤◌, drop}
use Rattle.chr_semantics.specs.Tokens.{digits_value}
use Rattle.chr_semantics.specs.declared.limits.TheConstants.{MAX_SCHEDULE_NUMBER}
use Rattle.chr_schedule.proofs.numbers.value_of.Given as goal

abbrev pub invariant-loop-digit : goal.invariant-loop-digit
invariant-loop-digit l = record {
  whole : digits_value 0 l.digits ≡ digits_value l.value (drop l.digit-index l.digits);
  small : l.value ≤ MAX_SCHEDULE_NUMBER;
}
