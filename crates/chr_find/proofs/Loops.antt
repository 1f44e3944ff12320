-- What a loop over a list has done so far.
use Rattle.std.proofs.Common.{◌≡◌, ◌∙◌, ◌<◌, ◌≤◌, ◌+◌, ℕ, Bool, true, false, List, [], ◌∷◌, ◌++◌, ap, get_or, length, subst, sym, take}
use Rattle.std.specs.List.{list_all}
use Rattle.std.specs.Prelude.{map}
use Rattle.std.proofs.lemmas.Bool.{and_from}
use Rattle.std.proofs.lemmas.List.{map-append, take_all}
use Rattle.std.proofs.lemmas.List.Folds.{list_all_at, list_all_more}
use Rattle.std.proofs.Math.Seq.{take-suc}
use Rattle.chr_find.proofs.Numbers.{next_is}

-- what is made of one more
pub map_more : {X Y : Type 0} (f : X → Y) (xs : List X) (k : ℕ) (d : X) → k < length xs → map f (take (k + 1) xs) ≡ map f (take k xs) ++ f (get_or xs k d) ∷ []
map_more {X = X} f xs k d lt = ap (λ (n : ℕ). map f (take n xs)) (next_is k) ∙ (ap (map f) (take-suc xs k d lt) ∙ map-append f (take k xs) (get_or xs k d ∷ []))

-- ds are the elements, as the code reads them
module _ {X : Type 0} (p : X → Bool) (ds xs : List X) (k : ℕ) (same : ds ≡ xs) where
  -- it fails of one
  pub fails_at : (x : X) → k < length ds → x ≡ get_or ds k x → p x ≡ false → list_all p xs ≡ false
  fails_at x lt is e = subst (λ (l : List X). list_all p l ≡ false) same (list_all_at p ds k x lt (ap p (sym is) ∙ e))

  -- it holds of one more
  pub holds_more : (x : X) → k < length ds → x ≡ get_or ds k x → list_all p (take k xs) ≡ true → p x ≡ true → list_all p (take (k + 1) xs) ≡ true
  holds_more x lt is so_far e =
      subst (λ (l : List X). list_all p (take k l) ≡ true → list_all p (take (k + 1) l) ≡ true) same
      (λ before. list_all_more p ds k x lt ∙ and_from (list_all p (take k ds)) (p (get_or ds k x)) before (ap p (sym is) ∙ e)) so_far

  -- it holds of all
  pub holds_all : length ds ≤ k → list_all p (take k xs) ≡ true → list_all p xs ≡ true
  holds_all le h = ap (list_all p) (sym (take_all k xs (subst (λ (l : List X). length l ≤ k) same le))) ∙ h
