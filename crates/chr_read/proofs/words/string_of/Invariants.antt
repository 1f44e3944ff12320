-- What is string_of and what is still to spell are the whole word.
use Rattle.std.proofs.Common.{◌≡◌, ◌++◌, drop, string_bytes}
use Rattle.std.specs.Str.{encode_utf8_all}
use Rattle.chr_read.proofs.words.string_of.Given as goal

abbrev pub invariant-loop-c : goal.invariant-loop-c
invariant-loop-c g l = string_bytes l.name ++ encode_utf8_all (drop l.c-index l.word) ≡ encode_utf8_all l.word
