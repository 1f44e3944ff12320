use Rattle.std.proofs.Common.{◌≡◌, ◌+◌, drop}
use Rattle.chr_semantics.specs.Suspicion.{have_arithmetic}
use Rattle.chr_term.specs.Size.{size, size_all}
use Rattle.chr_term.specs.TermView.{trees_view, view}
use Rattle.chr_suspicions.proofs.arithmetic.+arithmetic.Given as goal

abbrev pub decreases-has_arithmetic : goal.decreases-has_arithmetic
decreases-has_arithmetic g l = size (view l.term.now)

abbrev pub decreases-have_arithmetic : goal.decreases-have_arithmetic
decreases-have_arithmetic g l = size_all (trees_view l.terms.now) + 1

abbrev pub invariant-have_arithmetic-loop-term : goal.invariant-have_arithmetic-loop-term
invariant-have_arithmetic-loop-term g l = have_arithmetic (trees_view l.terms) ≡ have_arithmetic (trees_view (drop l.term-index l.terms))
