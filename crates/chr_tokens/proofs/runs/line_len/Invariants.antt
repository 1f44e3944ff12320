-- The line is counted up to here, and then goes on.
use Rattle.std.proofs.Common.{◌≡◌, ◌+◌, drop}
use Rattle.chr_semantics.specs.Tokens.{run_len, is_in_line}
use Rattle.chr_tokens.proofs.runs.line_len.Given as goal

abbrev pub invariant-loop-c : goal.invariant-loop-c
invariant-loop-c l = record {
  index : l.n ≡ l.c-index;
  len : run_len is_in_line l.text ≡ l.n + run_len is_in_line (drop l.c-index l.text);
}
