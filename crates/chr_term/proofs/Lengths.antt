-- Lists of terms that stand for the same trees have one length.
use Rattle.std.proofs.Common.{◌≡◌, ℕ, suc, List, [], ◌∷◌, length, ap, refl, arith}
use Rattle.chr_semantics.specs.Tree.{Trees, none, more}
use Rattle.chr_term.specs.TermView.{trees_view}
use Rattle.chr_term.specs.declared.term.Term.{Term}

unfoldable pub trees_length : Trees → ℕ
trees_length none = 0
trees_length (more t ts) = suc (trees_length ts)

pub trees_length-view : {A : Type 0} (ts : List (Term A)) → trees_length (trees_view ts) ≡ length ts
unfolding trees_length
trees_length-view [] = refl
trees_length-view (t ∷ ts) = ap suc (trees_length-view ts)

pub length-same_view : {A B : Type 0} (xs : List (Term A)) (ys : List (Term B)) → trees_view xs ≡ trees_view ys → length xs ≡ length ys
length-same_view xs ys e = omega (arith, trees_length-view xs, trees_length-view ys, ap trees_length e)
