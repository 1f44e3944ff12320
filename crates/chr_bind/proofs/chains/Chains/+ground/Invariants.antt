use Rattle.std.proofs.Common.{◌≡◌, ◌+◌, drop}
use Rattle.chr_semantics.specs.Tree.{is_ground_trees}
use Rattle.chr_semantics.specs.Subst.{apply, instances, value_at}
use Rattle.chr_term.specs.TermView.{view, trees_view}
use Rattle.chr_bind.specs.Chains.{subst_of}
use Rattle.chr_term.specs.Size.{size, size_all}
use Rattle.chr_bind.proofs.chains.Chains.+ground.Given as goal

abbrev pub decreases-is_ground : goal.decreases-is_ground
decreases-is_ground g l = size (apply (subst_of l.self.now) (view l.term.now))

abbrev pub decreases-are_ground : goal.decreases-are_ground
decreases-are_ground g l = size_all (instances (value_at (subst_of l.self.now)) (trees_view l.terms.now)) + 1

abbrev pub invariant-are_ground-loop-term : goal.invariant-are_ground-loop-term
invariant-are_ground-loop-term g l =
    let f = value_at (subst_of l.self) in is_ground_trees (instances f (trees_view l.terms)) ≡ is_ground_trees (instances f (trees_view (drop l.term-index l.terms)))
