-- What is noted and made, one after the other.
use Rattle.std.proofs.Common.{◌≡◌, ◌∙◌, ◌+◌, ℕ, zero, suc, drop, List, [], ◌∷◌, ◌++◌, ap, arith, refl, sym}
use Rattle.chr_keys.specs.Changes.{after_all}

-- without one more at the front
drop_last : {N : Type 0} (k : ℕ) (xs : List N) → drop 1 (drop k xs) ≡ drop (suc k) xs
drop_last zero xs = refl
drop_last (suc k) [] = refl
drop_last (suc k) (x ∷ xs) = drop_last k xs

pub drop_next : {N : Type 0} (k : ℕ) (xs : List N) → drop 1 (drop k xs) ≡ drop (k + 1) xs
drop_next k xs = let next : suc k ≡ k + 1 = omega arith in drop_last k xs ∙ ap (λ (n : ℕ). drop n xs) next

module _ {N X Y : Type 0} (step : N → (X → Y) → X → Y) (alike : (n : N) (f g : X → Y) (x : X) → f x ≡ g x → step n f x ≡ step n g x) where
  pub all_alike : (ns : List N) (f g : X → Y) (x : X) → f x ≡ g x → after_all step ns f x ≡ after_all step ns g x
  all_alike [] f g x e = e
  all_alike (n ∷ ns) f g x e = all_alike ns (step n f) (step n g) x (alike n f g x e)

  all_last : (ns : List N) (n : N) (f : X → Y) (x : X) → after_all step (ns ++ n ∷ []) f x ≡ step n (after_all step ns f) x
  all_last [] n f x = refl
  all_last (m ∷ ns) n f x = all_last ns n (step m f) x

  -- one more is noted
  pub one_more : (ns new : List N) (n : N) (f : X → Y) (x : X) → new ≡ ns ++ n ∷ [] → after_all step new f x ≡ step n (after_all step ns f) x
  one_more ns new n f x e = ap (λ (l : List N). after_all step l f x) e ∙ all_last ns n f x

  -- none is noted
  pub none_left : (ns : List N) (f : X → Y) (x : X) → ns ≡ [] → after_all step ns f x ≡ f x
  none_left ns f x e = ap (λ (l : List N). after_all step l f x) e

  -- the next one
  module _ (ns rest : List N) (n : N) (is : ns ≡ n ∷ rest) where
    next_is : (f : X → Y) (x : X) → after_all step ns f x ≡ after_all step rest (step n f) x
    next_is f x = ap (λ (l : List N). after_all step l f x) is

    -- is made
    pub made_next : (left : List N) (f g : X → Y) (x : X) → left ≡ rest → g x ≡ step n f x → after_all step left g x ≡ after_all step ns f x
    made_next left f g x e h = ap (λ (l : List N). after_all step l g x) e ∙ (all_alike rest g (step n f) x h ∙ sym (next_is f x))

    -- or has to be made again
    pub unmade_next : (f g : X → Y) (x : X) → step n g x ≡ step n f x → after_all step ns g x ≡ after_all step ns f x
    unmade_next f g x h = next_is g x ∙ (all_alike rest (step n g) (step n f) x h ∙ sym (next_is f x))
