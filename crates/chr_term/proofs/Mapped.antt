-- A list that is built as the image of another.
use Rattle.std.proofs.Common.{◌≡◌, ℕ, ◌+◌, ◌<◌, List, [], ◌∷◌, ◌++◌, length, get_or, take, map, arith}
use Rattle.std.proofs.lemmas.Grind.{common_steps}

-- one more element keeps what is built the image of what was read
pub map_pushed : {X Y Z : Type 0} (f : X → Z) (g : Y → Z) (xs : List X) (ys : List Y) (x : X) (y : Y) (i : ℕ) → map f xs ≡ map g (take i ys) → i < length ys → f x ≡ g y → y ≡ get_or ys i y → map f (xs ++ x ∷ []) ≡ map g (take (i + 1) ys)
map_pushed f g xs ys x y i h lt e at = grind (arith, common_steps)
