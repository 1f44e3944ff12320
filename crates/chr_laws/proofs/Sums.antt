-- The stamps of a footprint, added up, tell whether an answer serves.
use Rattle.std.proofs.Common.{List, [], arith, refl, true, ℕ, ◌≤◌, ◌+◌, ◌==◌, ◌∷◌, ◌≡◌}
use Rattle.std.proofs.lemmas.Bool.{and_from, and_parts, eq-eqb, eqb-true}
use Rattle.std.specs.List.{list_all}
use Rattle.chr_semantics.specs.Touch.{Mark}
use Rattle.chr_laws.specs.Sums.{sum_of}

-- no summand is behind, so no sum is
pub sum_least : (f g : Mark → ℕ) (xs : List Mark) → ((x : Mark) → f x ≤ g x) → sum_of f xs ≤ sum_of g xs
sum_least f g [] h = omega arith
sum_least f g (x ∷ xs) h = let a = h x in let b = sum_least f g xs h in omega (arith, a, b)

-- where the sums are equal, so is each summand
pub each_equal : (f g : Mark → ℕ) (xs : List Mark) → ((x : Mark) → f x ≤ g x) → sum_of f xs ≡ sum_of g xs → list_all (λ x. f x == g x) xs ≡ true
each_equal f g [] h e = refl
each_equal f g (x ∷ xs) h e =
    let a = h x in
    let b = sum_least f g xs h in
    and_from (f x == g x) _ (eq-eqb (f x) (g x) (omega (arith, a, b, e))) (each_equal f g xs h (omega (arith, a, b, e)))

pub sums_equal : (f g : Mark → ℕ) (xs : List Mark) → list_all (λ x. f x == g x) xs ≡ true → sum_of f xs ≡ sum_of g xs
sums_equal f g [] h = refl
sums_equal f g (x ∷ xs) h =
    let r = and_parts (f x == g x) _ h in
    let e = eqb-true (f x) (g x) r.0 in
    let s = sums_equal f g xs r.1 in
    omega (arith, e, s)

-- two numbers for each mark
pub sum_both : (f g : Mark → ℕ) (xs : List Mark) → sum_of (λ x. f x + g x) xs ≡ sum_of f xs + sum_of g xs
sum_both f g [] = refl
sum_both f g (x ∷ xs) = let e = sum_both f g xs in omega (arith, e)
