-- Ascending numbers that are in the same lists are the same.
use Rattle.std.proofs.Common.{◌≡◌, ◌∙◌, ◌||◌, ◌<◌, ℕ, suc, Bool, true, false, List, [], ◌∷◌, ap, arith, get_or, length, refl, sym, ⊎_elim}
use Rattle.std.proofs.lemmas.Bool.{cases_eq, cases_lt, eq-eqb, ne_eqb}
use Rattle.std.proofs.lemmas.List.Kept.{AllPairs-from_increasing}
use Rattle.std.specs.List.Sorted.{IsStrictlyIncreasing}
use Rattle.std.specs.Prelude.{AllPairs}
use Rattle.chr_semantics.specs.Search.{has_number}

-- each number is over the bound
abbrev pub Over : ℕ → List ℕ → Type 0
Over n [] = Unit {0}
Over n (x ∷ xs) = (n < x) × Over n xs

abbrev pub Up : List ℕ → Type 0
Up [] = Unit {0}
Up (x ∷ xs) = Over x xs × Up xs

over_pairs : (n : ℕ) (xs : List ℕ) → ((k d : ℕ) → k < length xs → n < get_or xs k d) → Over n xs
over_pairs n [] h = tt
over_pairs n (x ∷ xs) h = (h 0 0 (omega arith), over_pairs n xs (λ k d lt. h (suc k) d (omega (arith, lt))))

up_pairs : (xs : List ℕ) → AllPairs (λ y z. y < z) xs → Up xs
up_pairs [] up = tt
up_pairs (x ∷ xs) up = (over_pairs x xs (λ k d lt. up 0 (suc k) d (omega arith) (omega (arith, lt))), up_pairs xs (λ i j d lt inside. up (suc i) (suc j) d (omega (arith, lt)) (omega (arith, inside))))

pub over_less : (m n : ℕ) (xs : List ℕ) → m < n → Over n xs → Over m xs
over_less m n [] lt over = tt
over_less m n (x ∷ xs) lt over = (omega (arith, lt, over.0), over_less m n xs lt over.1)

pub not_over : (n : ℕ) (xs : List ℕ) → Over n xs → has_number xs n ≡ false
not_over n [] over = refl
not_over n (x ∷ xs) over = ap (λ (b : Bool). b || has_number xs n) (ne_eqb n x (λ e. omega (arith, e, over.0))) ∙ not_over n xs over.1

first_has : (x : ℕ) (xs : List ℕ) → has_number (x ∷ xs) x ≡ true
first_has x xs = ap (λ (b : Bool). b || has_number xs x) (eq-eqb x x refl)

-- the first ones are equal
not_less : (x y : ℕ) (xs ys : List ℕ) → Over y ys → has_number (x ∷ xs) x ≡ has_number (y ∷ ys) x → x < y → ⊥
not_less x y xs ys over same lt = cc (first_has x xs, same, not_over x (y ∷ ys) (lt, over_less x y ys lt over))

same_up : (xs ys : List ℕ) → Up xs → Up ys → ((i : ℕ) → has_number xs i ≡ has_number ys i) → xs ≡ ys
same_up [] [] up vp same = refl
same_up [] (y ∷ ys) up vp same = cc (same y, first_has y ys)
same_up (x ∷ xs) [] up vp same = cc (same x, first_has x xs)
same_up (x ∷ xs) (y ∷ ys) up vp same = cc (first, same_up xs ys up.1 vp.1 others)
  where
    first : x ≡ y
    first = ⊎_elim (λ e. e) (λ apart. ⊎_elim (λ lt. absurd (not_less x y xs ys vp.0 (same x) lt)) (λ le. absurd (not_less y x ys xs up.0 (sym (same y)) (omega (arith, apart, le)))) (cases_lt x y)) (cases_eq x y)

    others : (i : ℕ) → has_number xs i ≡ has_number ys i
    others i = ⊎_elim here elsewhere (cases_eq i x)
      where
        here : i ≡ x → has_number xs i ≡ has_number ys i
        here e = cc (e, first, not_over x xs up.0, not_over y ys vp.0)

        elsewhere : (i ≡ x → ⊥) → has_number xs i ≡ has_number ys i
        elsewhere apart = cc (same i, ne_eqb i x apart, ne_eqb i y (λ e. apart (e ∙ sym first)))

-- an increasing list, and one that goes up
pub same_from_up : (xs ys : List ℕ) → IsStrictlyIncreasing xs → Up ys → ((i : ℕ) → has_number xs i ≡ has_number ys i) → xs ≡ ys
same_from_up xs ys up vp same = same_up xs ys (up_pairs xs (AllPairs-from_increasing xs up)) vp same
