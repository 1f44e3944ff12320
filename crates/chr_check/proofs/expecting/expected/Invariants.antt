-- What was found so far may stand there.
use Rattle.chr_check.specs.Standing.{AreStanding, IsParted}
use Rattle.chr_check.proofs.expecting.expected.Given as goal

abbrev pub invariant-loop-candidate : goal.invariant-loop-candidate
invariant-loop-candidate g l = record {
  parted : IsParted l.front l.text.items;
  standing : AreStanding l.language l.front l.found.items;
}
