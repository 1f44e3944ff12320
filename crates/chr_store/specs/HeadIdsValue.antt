-- The identities at the heads of a rule, in their places.
use Rattle.std.specs.Prelude.{◌≡◌, ℕ, ◌≤◌, List, [], ◌∷◌, ◌++◌, drop, length, map, take}
use Rattle.chr_semantics.specs.declared.limits.TheConstants.{MAX_HEADS}
use Rattle.std.proofs.Common.{◌∙◌, ap, arith, refl, suc, sym, take-append-drop, length-take-le}
use Rattle.chr_store.specs.Numbers.{numbers}
use Rattle.chr_store.specs.declared.id.Id.{Id}

-- what stands in the places behind the last
abbrev pub blanks : List Id
blanks = map (λ (n : ℕ). record { 0 = n }) (0 ∷ 0 ∷ 0 ∷ 0 ∷ 0 ∷ 0 ∷ 0 ∷ 0 ∷ [])

-- in places
abbrev pub padded : List ℕ → List Id
padded ns = map (λ (n : ℕ). record { 0 = n }) ns ++ drop (length ns) blanks

-- the first n places have identities, and the others are blank
pub record ArePlaced (n : ℕ) (places : List Id) : Type 0 where
  pub few : n ≤ MAX_HEADS
  pub size : length places ≡ MAX_HEADS
  pub blank : drop n places ≡ drop n blanks

again : (xs : List Id) → map (λ (n : ℕ). record { 0 = n }) (numbers xs) ≡ xs
again [] = refl
again (x ∷ xs) = λ i. x ∷ again xs i

count : (xs : List Id) → length (numbers xs) ≡ length xs
count [] = refl
count (x ∷ xs) = ap suc (count xs)

pub count_is : (n : ℕ) (places : List Id) → ArePlaced n places → length (numbers (take n places)) ≡ n
count_is n places h = count (take n places) ∙ length-take-le n places (omega (arith, h.few, h.size))

pub places_are : (n : ℕ) (places : List Id) → ArePlaced n places → padded (numbers (take n places)) ≡ places
places_are n places h =
    (λ i. again (take n places) i ++ drop (count_is n places h i) blanks) ∙ (ap (λ xs. take n places ++ xs) (sym h.blank) ∙ take-append-drop n places)
