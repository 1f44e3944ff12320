-- Numbers of places, as a list of places grows.
use Rattle.std.proofs.Common.{◌≡◌, ◌∙◌, ◌+◌, ◌==◌, ◌++◌, ◌∷◌, ◌<◌, [], Bool, List, None, Option, Some, ap, arith, cond, false, length, position, refl, suc, sym, true, ℕ}
use Rattle.std.proofs.lemmas.Bool.{eqb-true}
use Rattle.std.proofs.lemmas.Iterator.Adapters.{position_from-zero}
use Rattle.std.proofs.lemmas.List.Quantifiers.{position-Some}
use Rattle.std.proofs.lemmas.Option.{slice_get-get_or}
use Rattle.std.specs.Prelude.{get_or, slice_get}
use Rattle.std.specs.List.{position_from}
use Rattle.chr_core.specs.PlaceView.{or_number}
use Rattle.chr_core.specs.Shown.{AreNumbered}

from_push : (test : ℕ → Bool) (i : ℕ) (xs : List ℕ) (y : ℕ) → position_from test i (xs ++ y ∷ []) ≡ or_number (position_from test i xs) (test y) (i + length xs)
from_push test i [] y = let e : i ≡ i + 0 = omega arith in ap (λ (n : ℕ). cond (test y) (Some n) None) e
from_push test i (x ∷ xs) y = at (test x) (from_push test (i + 1) xs y)
  where
    at : (b : Bool) → position_from test (i + 1) (xs ++ y ∷ []) ≡ or_number (position_from test (i + 1) xs) (test y) ((i + 1) + length xs)
        → cond b (Some i) (position_from test (i + 1) (xs ++ y ∷ [])) ≡ or_number (cond b (Some i) (position_from test (i + 1) xs)) (test y) (i + suc (length xs))
    at true e = refl
    at false e = let n : (i + 1) + length xs ≡ i + suc (length xs) = omega arith in e ∙ ap (or_number (position_from test (i + 1) xs) (test y)) n

position_push : (test : ℕ → Bool) (xs : List ℕ) (y : ℕ) → position test (xs ++ y ∷ []) ≡ or_number (position test xs) (test y) (length xs)
position_push test xs y =
    let n : 0 + length xs ≡ length xs = omega arith in
    position_from-zero test (xs ++ y ∷ [])
    ∙ from_push test 0 xs y
    ∙ ap (or_number (position_from test 0 xs) (test y)) n
    ∙ ap (λ (x : Option ℕ). or_number x (test y) (length xs)) (sym (position_from-zero test xs))

pub numbered_more : (number new_number : ℕ → Option ℕ) (places : List ℕ) (place : ℕ) → AreNumbered number places
    → ((y : ℕ) → new_number y ≡ or_number (number y) (place == y) (length places)) → AreNumbered new_number (places ++ place ∷ [])
numbered_more number new_number places place old now y =
    now y ∙ ap (λ (x : Option ℕ). or_number x (place == y) (length places)) (old y) ∙ sym (position_push (λ x. x == y) places place)

-- what stands at the number of a place
pub place_at : (number : ℕ → Option ℕ) (places : List ℕ) (place i : ℕ) → AreNumbered number places → number place ≡ Some i → slice_get places i ≡ Some place
place_at number places place i are e =
    let w = position-Some (λ x. x == place) places i 0 (sym (are place) ∙ e) in
    slice_get-get_or places i 0 w.0 ∙ ap (λ (n : ℕ). Some n) (eqb-true (get_or places i 0) place w.1)
