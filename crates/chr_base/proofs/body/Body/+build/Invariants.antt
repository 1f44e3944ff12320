use Rattle.std.proofs.Common.{◌≡◌, ◌+◌, ◌*◌, map, take}
use Rattle.chr_semantics.specs.Subst.{Subst, instance}
use Rattle.chr_term.specs.Replaced.{list_by}
use Rattle.chr_term.specs.Size.{size, size_all}
use Rattle.chr_term.specs.TermView.{trees_view, view}
use Rattle.chr_base.specs.Bodies.{IsMatch, stands_for}
use Rattle.chr_base.proofs.body.Body.+build.Given as goal

abbrev pub decreases-new_term : goal.decreases-new_term
decreases-new_term g l = 2 * size (view l.term.now)

abbrev pub decreases-new_args : goal.decreases-new_args
decreases-new_args g l = 2 * size_all l.args.now + 3

abbrev pub decreases-new_terms : goal.decreases-new_terms
decreases-new_terms g l = 2 * size_all (trees_view l.terms.now) + 2

abbrev pub invariant-new_terms-loop-i : goal.invariant-new_terms-loop-i
invariant-new_terms-loop-i g l =
    (m : Subst) → IsMatch l.self m → list_by (take l.i l.terms) l.made ≡ map (λ t. instance (stands_for l.self m) (view t)) (take l.i l.terms)
