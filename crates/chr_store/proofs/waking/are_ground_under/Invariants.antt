use Rattle.std.proofs.Common.{◌≡◌, drop}
use Rattle.chr_semantics.specs.Tree.{is_ground_trees}
use Rattle.chr_semantics.specs.Subst.{instances, value_at}
use Rattle.chr_term.specs.TermView.{trees_view}
use Rattle.chr_store.proofs.waking.are_ground_under.Given as goal

abbrev pub invariant-loop-term : goal.invariant-loop-term
invariant-loop-term g l =
    let f = value_at l.bindings.subst in is_ground_trees (instances f (trees_view l.terms)) ≡ is_ground_trees (instances f (trees_view (drop l.term-index l.terms)))
