use Rattle.std.proofs.Common.{◌≡◌, ◌++◌, drop, filter}
use Rattle.chr_suspicions.specs.Counts.{is_lone}
use Rattle.chr_suspicions.specs.Words.{words_of}
use Rattle.chr_suspicions.proofs.variables.lone_among.Given as goal

abbrev pub invariant-loop-word : goal.invariant-loop-word
invariant-loop-word g l = words_of l.lone.items ++ filter (is_lone l.met) (words_of (drop l.word-index l.words)) ≡ filter (is_lone l.met) (words_of l.words)
