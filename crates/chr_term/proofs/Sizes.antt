-- A tree is no larger than its list.
use Rattle.std.proofs.Common.{◌≡◌, ℕ, zero, suc, ◌<◌, ◌≤◌, List, [], ◌∷◌, length, get_or, map, ap, arith}
use Rattle.chr_semantics.specs.Tree.{Tree, trees_of}
use Rattle.chr_term.specs.Size.{size, size_all}

pub size-item : {X : Type 0} (f : X → Tree) (xs : List X) (i : ℕ) (x : X) → i < length xs → x ≡ get_or xs i x → size (f x) ≤ size_all (trees_of (map f xs))
size-item f [] i x h e = absurd (omega arith)
size-item f (y ∷ xs) zero x h e = omega (arith, ap (λ t. size (f t)) e)
size-item f (y ∷ xs) (suc i) x h e = let r = size-item f xs i x (omega arith) e in omega (arith, r)
