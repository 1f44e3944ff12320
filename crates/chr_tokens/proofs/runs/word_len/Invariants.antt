-- What goes on with the word is counted up to here, and then goes on.
use Rattle.std.proofs.Common.{◌≡◌, ◌+◌, drop}
use Rattle.unicode_ident.specs.Ident.{is_xid_continue}
use Rattle.chr_semantics.specs.Tokens.{run_len}
use Rattle.chr_tokens.proofs.runs.word_len.Given as goal

abbrev pub invariant-loop-c : goal.invariant-loop-c
invariant-loop-c l = record {
  index : l.n ≡ l.c-index;
  len : run_len is_xid_continue l.text ≡ l.n + run_len is_xid_continue (drop l.c-index l.text);
}
