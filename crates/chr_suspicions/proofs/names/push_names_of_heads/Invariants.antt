use Rattle.std.proofs.Common.{◌≡◌, ◌++◌, drop}
use Rattle.chr_read.specs.SyntaxView.{head_views}
use Rattle.chr_suspicions.specs.Words.{names_in_heads, words_of}
use Rattle.chr_suspicions.proofs.names.push_names_of_heads.Given as goal

abbrev pub invariant-loop-head : goal.invariant-loop-head
invariant-loop-head g l =
    words_of l.words.items ++ names_in_heads (head_views (drop l.head-index l.heads)) ≡ words_of l.initial.words.items ++ names_in_heads (head_views l.heads)
