use Rattle.std.proofs.Common.{◌≡◌, take}
use Rattle.chr_trace.specs.Lined.{ends_of}
use Rattle.cordspar.specs.Lines.{lines_in}
use Rattle.cordspar.proofs.lined.ends_in.Given as goal

-- the ends that were found
abbrev pub invariant-loop-k : goal.invariant-loop-k
invariant-loop-k l = l.ends.items ≡ ends_of 0 (lines_in (take l.k l.text))
