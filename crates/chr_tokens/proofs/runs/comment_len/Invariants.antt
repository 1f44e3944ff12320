-- No end of the comment stands up to here, so it is the first one of the rest.
use Rattle.std.proofs.Common.{◌≡◌, ◌+◌, drop, option_map}
use Rattle.chr_semantics.specs.Tokens.{comment_len}
use Rattle.chr_tokens.proofs.Comments.{len_after}
use Rattle.chr_tokens.proofs.runs.comment_len.Given as goal

abbrev pub invariant-loop-i : goal.invariant-loop-i
invariant-loop-i l = comment_len l.text ≡ option_map (λ n. l.i + n) (len_after l.star (drop l.i l.text))
