use Rattle.std.proofs.Common.{◌≡◌, take}
use Rattle.chr_suspicions.specs.Counts.{times}
use Rattle.chr_suspicions.proofs.variables.note_again.Given as goal

abbrev pub invariant-loop-known : goal.invariant-loop-known
invariant-loop-known l = record {
  none : times (take l.known-index l.met) l.word ≡ 0;
  same : l.met ≡ l.initial.met;
}
