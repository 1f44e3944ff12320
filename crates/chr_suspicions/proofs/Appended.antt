-- Lists that are appended one after another.
use Rattle.std.proofs.Common.{◌≡◌, ◌∙◌, ◌+◌, ◌<◌, ◌++◌, ◌∷◌, [], List, add-one, ap, append_assoc, drop, drop-cons, get_or, length, suc, sym, take, arith, ℕ}
use Rattle.std.proofs.lemmas.Grind.{common_steps}

-- two of them, by what they are, make the whole
pub both_appended : {Y : Type 0} (old mid new x y p q whole : List Y) → mid ≡ old ++ p → p ≡ x → new ≡ mid ++ q → q ≡ y → whole ≡ x ++ y → new ≡ old ++ whole
both_appended old mid new x y p q whole first px second qy is =
    second ∙ ap (λ l. l ++ q) first ∙ append_assoc old p q ∙ ap (λ l. old ++ (l ++ q)) px ∙ ap (λ l. old ++ (x ++ l)) qy ∙ ap (λ l. old ++ l) (sym is)

module _ {X Y : Type 0} (f : X → List Y) (F : List X → List Y) (step : (x : X) (xs : List X) → F (x ∷ xs) ≡ f x ++ F xs) where
  at_next : (xs : List X) (i : ℕ) (x : X) → i < length xs → x ≡ get_or xs i x → F (drop i xs) ≡ f x ++ F (drop (i + 1) xs)
  at_next xs i x lt at =
      ap F (drop-cons xs i x lt)
      ∙ step (get_or xs i x) (drop (suc i) xs)
      ∙ ap (λ y. f y ++ F (drop (suc i) xs)) (sym at)
      ∙ ap (λ k. f x ++ F (drop k xs)) (sym (add-one i))

  -- what an element gives is appended, and what the others give is left
  pub next_appended : (xs : List X) (i : ℕ) (x : X) (now new whole : List Y) → i < length xs → x ≡ get_or xs i x → new ≡ now ++ f x → now ++ F (drop i xs) ≡ whole → new ++ F (drop (i + 1) xs) ≡ whole
  next_appended xs i x now new whole lt at more h =
      ap (λ l. l ++ F (drop (i + 1) xs)) more ∙ append_assoc now (f x) (F (drop (i + 1) xs)) ∙ ap (λ l. now ++ l) (sym (at_next xs i x lt at)) ∙ h

-- what a slice of a whole list was made is the list
pub written_back : {Y : Type 0} (items new : List Y) (n : ℕ) → n ≡ length items → length new ≡ length items → take n (new ++ drop (length new) items) ≡ new
written_back items new n is same = grind (arith, common_steps)

-- one element more, of a list by what it is
pub one_appended : {Y : Type 0} (old mid new : List Y) (y : Y) → mid ≡ old → new ≡ mid ++ y ∷ [] → new ≡ old ++ y ∷ []
one_appended old mid new y is more = more ∙ ap (λ l. l ++ y ∷ []) is
