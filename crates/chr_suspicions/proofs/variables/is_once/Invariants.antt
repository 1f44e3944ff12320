use Rattle.std.proofs.Common.{◌≡◌, drop}
use Rattle.chr_suspicions.specs.Counts.{times}
use Rattle.chr_suspicions.proofs.variables.is_once.Given as goal

abbrev pub invariant-loop-known : goal.invariant-loop-known
invariant-loop-known l = times l.met l.word ≡ times (drop l.known-index l.met) l.word
