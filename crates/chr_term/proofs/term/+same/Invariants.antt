use Rattle.std.proofs.Common.{◌≡◌, ◌↔◌, drop}
use Rattle.chr_term.specs.TermView.{trees_view}
use Rattle.chr_term.proofs.term.+same.Given as goal

abbrev pub invariant-same_all-loop-i : goal.invariant-same_all-loop-i
invariant-same_all-loop-i g l = (trees_view l.left ≡ trees_view l.right) ↔ (trees_view (drop l.i l.left) ≡ trees_view (drop l.i l.right))
