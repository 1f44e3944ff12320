use Rattle.std.proofs.Common.{◌≡◌, ◌+◌, drop}
use Rattle.chr_semantics.specs.Subst.{apply, occurs_any, instances, value_at}
use Rattle.chr_term.specs.TermView.{view, trees_view}
use Rattle.chr_bind.specs.Chains.{subst_of}
use Rattle.chr_term.specs.Size.{size, size_all}
use Rattle.chr_bind.proofs.chains.Chains.+occurs.Given as goal

abbrev pub decreases-occurs : goal.decreases-occurs
decreases-occurs g l = size (apply (subst_of l.self.now) (view l.term.now))

abbrev pub decreases-occurs_any : goal.decreases-occurs_any
decreases-occurs_any g l = size_all (instances (value_at (subst_of l.self.now)) (trees_view l.terms.now)) + 1

abbrev pub invariant-occurs_any-loop-term : goal.invariant-occurs_any-loop-term
invariant-occurs_any-loop-term g l =
    let f = value_at (subst_of l.self) in occurs_any l.var (instances f (trees_view l.terms)) ≡ occurs_any l.var (instances f (trees_view (drop l.term-index l.terms)))
