use Rattle.std.proofs.Common.{take}
use Rattle.chr_suspicions.specs.Counts.{AreCounted}
use Rattle.chr_suspicions.specs.Words.{words_of}
use Rattle.chr_suspicions.proofs.variables.count.Given as goal

abbrev pub invariant-loop-word : goal.invariant-loop-word
invariant-loop-word g l = AreCounted l.met.items (words_of (take l.word-index l.words))
