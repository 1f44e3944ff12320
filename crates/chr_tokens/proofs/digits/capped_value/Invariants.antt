-- The capped value of the digits read so far stands for them.
use Rattle.std.proofs.Common.{◌≡◌, ◌≤◌, ◌+◌, drop, min}
use Rattle.chr_semantics.specs.Tokens.{digits_value}
use Rattle.chr_semantics.specs.Value.{max_magnitude}
use Rattle.chr_tokens.proofs.digits.capped_value.Given as goal

abbrev pub invariant-loop-c : goal.invariant-loop-c
invariant-loop-c l = record {
  bound : l.value ≤ max_magnitude + 1;
  whole : min (digits_value 0 l.digits) (max_magnitude + 1) ≡ min (digits_value l.value (drop l.c-index l.digits)) (max_magnitude + 1);
}
