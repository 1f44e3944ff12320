use Rattle.std.proofs.Common.{◌≡◌, map, vec_len}
use Rattle.chr_term.specs.TermView.{view}
use Rattle.chr_rules.specs.Turns.{list_of}
use Rattle.chr_rules.proofs.trees.list_of.Given as goal

abbrev pub invariant-loop-tree : goal.invariant-loop-tree
invariant-loop-tree g l = list_of (map view l.initial.trees.items) (view l.initial.list) ≡ list_of (map view l.trees.items) (view l.list)

abbrev pub decreases-loop-tree : goal.decreases-loop-tree
decreases-loop-tree g l = vec_len l.trees
