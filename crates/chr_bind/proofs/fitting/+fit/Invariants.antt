use Rattle.std.proofs.Common.{◌≡◌, ◌+◌, drop}
use Rattle.chr_semantics.specs.Match.{fit_all}
use Rattle.chr_semantics.specs.Subst.{Subst}
use Rattle.chr_term.specs.TermView.{trees_view, view}
use Rattle.chr_bind.specs.Matching.{AgreesWith, Keeps}
use Rattle.chr_term.specs.Size.{size, size_all}
use Rattle.chr_bind.proofs.fitting.+fit.Given as goal

abbrev pub decreases-fit_term : goal.decreases-fit_term
decreases-fit_term g l = size (view l.pattern.now)

abbrev pub decreases-fit_all : goal.decreases-fit_all
decreases-fit_all g l = size_all (trees_view l.patterns.now) + 1

abbrev pub invariant-fit_all-loop-i : goal.invariant-fit_all-loop-i
invariant-fit_all-loop-i g l =
    Keeps l.fn.matching l.matching × ((m : Subst) → AgreesWith l.fn.matching m → (n : Subst) × AgreesWith l.matching n × (fit_all (trees_view l.patterns) (trees_view l.terms) m ≡ fit_all (trees_view (drop l.i l.patterns)) (trees_view (drop l.i l.terms)) n))
