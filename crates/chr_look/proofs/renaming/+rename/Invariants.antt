use Rattle.std.proofs.Common.{◌≡◌, ◌+◌, map, take}
use Rattle.chr_semantics.specs.Subst.{instance}
use Rattle.chr_semantics.specs.Tree.{var}
use Rattle.chr_term.specs.Size.{size, size_all}
use Rattle.chr_term.specs.TermView.{trees_view, view}
use Rattle.chr_look.proofs.renaming.+rename.Given as goal

abbrev pub decreases-rename : goal.decreases-rename
decreases-rename g l = size (view l.term.now)

abbrev pub decreases-rename_all : goal.decreases-rename_all
decreases-rename_all g l = size_all (trees_view l.terms.now) + 1

abbrev pub invariant-rename_all-loop-term : goal.invariant-rename_all-loop-term
invariant-rename_all-loop-term g l = map view l.items.items ≡ map (λ t. instance (λ x. var (l.n + x)) (view t)) (take l.term-index l.terms)
