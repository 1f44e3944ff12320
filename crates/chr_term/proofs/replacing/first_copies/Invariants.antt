use Rattle.std.proofs.Common.{◌≡◌, take, map}
use Rattle.chr_term.specs.TermView.{view}
use Rattle.chr_term.proofs.replacing.first_copies.Given as goal

abbrev pub invariant-loop-i : goal.invariant-loop-i
invariant-loop-i g l = map view l.copies.items ≡ map view (take l.i l.terms)
