-- Whether a number is in a list.
use Rattle.std.proofs.Common.{◌≡◌, ◌∙◌, ◌==◌, ◌||◌, ◌+◌, ◌<◌, ◌⊎◌, inl, inr, ℕ, zero, suc, Bool, true, false, List, [], ◌∷◌, ap, arith, get_or, length, refl, sym, take}
use Rattle.std.proofs.Math.Seq.{take-suc}
use Rattle.std.proofs.lemmas.Bool.{eq-eqb, or_left, or_right}
use Rattle.std.proofs.lemmas.Bool.Decides.{Decides-eqb}
use Rattle.std.proofs.lemmas.List.Folds.{list_any-append}
use Rattle.chr_semantics.specs.Search.{has_number}

pub has_at : (l : List ℕ) (k d : ℕ) → k < length l → has_number l (get_or l k d) ≡ true
has_at [] k d lt = absurd (omega (arith, lt))
has_at (x ∷ l) zero d lt = or_left (x == x) (has_number l x) (eq-eqb x x refl)
has_at (x ∷ l) (suc k) d lt = or_right (get_or l k d == x) (has_number l (get_or l k d)) (has_at l k d (omega (arith, lt)))

pub one_or : (a b : Bool) → (a || b) ≡ true → (a ≡ true) ⊎ (b ≡ true)
one_or true b e = inl refl
one_or false b e = inr e

pub next_is : (k : ℕ) → k + 1 ≡ suc k
next_is k = omega arith

-- in one more of them
pub in_more : (l : List ℕ) (k d i : ℕ) → k < length l → has_number (take (k + 1) l) i ≡ true → (has_number (take k l) i ≡ true) ⊎ (i ≡ get_or l k d)
in_more l k d i lt h = by_part (one_or (has_number (take k l) i) (i == get_or l k d || false) (sym (ap (λ (xs : List ℕ). has_number xs i) (ap (λ (n : ℕ). take n l) (next_is k) ∙ take-suc l k d lt) ∙ list_any-append (λ j. i == j) (take k l) (get_or l k d ∷ [])) ∙ h))
  where
    by_part : (has_number (take k l) i ≡ true) ⊎ ((i == get_or l k d || false) ≡ true) → (has_number (take k l) i ≡ true) ⊎ (i ≡ get_or l k d)
    by_part (inl e) = inl e
    by_part (inr e) = inr ((Decides-eqb i (get_or l k d)).0 (last (i == get_or l k d) e))
      where
        last : (b : Bool) → (b || false) ≡ true → b ≡ true
        last true e = refl
        last false e = e
