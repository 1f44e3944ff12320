-- The digits are counted up to here, and then go on.
use Rattle.std.proofs.Common.{◌≡◌, ◌+◌, drop}
use Rattle.std.specs.Char.{is_ascii_digit}
use Rattle.chr_semantics.specs.Tokens.{run_len}
use Rattle.chr_tokens.proofs.runs.digits_len.Given as goal

abbrev pub invariant-loop-c : goal.invariant-loop-c
invariant-loop-c l = record {
  index : l.n ≡ l.c-index;
  len : run_len is_ascii_digit l.text ≡ l.n + run_len is_ascii_digit (drop l.c-index l.text);
}
