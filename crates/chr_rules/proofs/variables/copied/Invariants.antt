use Rattle.std.proofs.Common.{◌≡◌, take}
use Rattle.chr_term.specs.Texts.{texts_of}
use Rattle.chr_rules.specs.Words.{words_of}
use Rattle.chr_rules.proofs.variables.copied.Given as goal

abbrev pub invariant-loop-place : goal.invariant-loop-place
invariant-loop-place g l = texts_of l.copied.items ≡ words_of (take l.place l.words)
