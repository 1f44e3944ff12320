use Rattle.std.proofs.Common.{◌≡◌, ◌↔◌, ◌+◌, drop}
use Rattle.chr_semantics.specs.Subst.{apply, instances, value_at}
use Rattle.chr_term.specs.TermView.{view, trees_view}
use Rattle.chr_bind.specs.Chains.{subst_of}
use Rattle.chr_term.specs.Size.{size, size_all}
use Rattle.chr_bind.proofs.chains.Chains.+matches.Given as goal

abbrev pub decreases-resolves_to : goal.decreases-resolves_to
decreases-resolves_to g l = size (apply (subst_of l.self.now) (view l.term.now))

abbrev pub decreases-resolve_to : goal.decreases-resolve_to
decreases-resolve_to g l = size_all (instances (value_at (subst_of l.self.now)) (trees_view l.terms.now)) + 1

abbrev pub invariant-resolve_to-loop-i : goal.invariant-resolve_to-loop-i
invariant-resolve_to-loop-i g l =
    let f = value_at (subst_of l.self) in (instances f (trees_view l.terms) ≡ trees_view l.others) ↔ (instances f (trees_view (drop l.i l.terms)) ≡ trees_view (drop l.i l.others))
