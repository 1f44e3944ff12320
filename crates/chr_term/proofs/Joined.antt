-- Text that is written in parts.
use Rattle.std.proofs.Common.{◌≡◌, ℕ, ◌+◌, ◌<◌, ◌≤◌, List, [], ◌∷◌, ◌++◌, map, drop, get_or, length, ap, sym, ◌∙◌, append_assoc, append-nil, Result, Ok, Err, OnOk}
use Rattle.std.specs.Fmt.{decimal}
use Rattle.std.proofs.lemmas.List.{at_drop_more, drop_all}
use Rattle.chr_semantics.specs.Text.{more_ids_text}

joined : (out first second third a b c new : List ℕ) → first ≡ out ++ a → second ≡ first ++ b → third ≡ c → new ≡ second ++ third → new ≡ out ++ (a ++ (b ++ c))
joined out first second third a b c new e f k h = h ∙ ap (λ t. second ++ t) k ∙ ap (λ s. s ++ c) (f ∙ ap (λ s. s ++ b) e) ∙ append_assoc (out ++ a) b c ∙ append_assoc out a (b ++ c)

pub joined_on_ok : {T E : Type 0} (r : Result T E) (out first second third a b c new : List ℕ) → first ≡ out ++ a → second ≡ first ++ b → third ≡ c → OnOk r (new ≡ second ++ third) → OnOk r (new ≡ out ++ (a ++ (b ++ c)))
joined_on_ok (Ok x) out first second third a b c new e f k h = joined out first second third a b c new e f k h
joined_on_ok (Err x) out first second third a b c new e f k h = tt

pub two_on_ok : {T E : Type 0} (r : Result T E) (out first new a b : List ℕ) → first ≡ out ++ a → OnOk r (new ≡ first ++ b) → OnOk r (new ≡ out ++ (a ++ b))
two_on_ok (Ok x) out first new a b e h = h ∙ ap (λ t. t ++ b) e ∙ append_assoc out a b
two_on_ok (Err x) out first new a b e h = tt

-- a name, its first argument, its second one, and what comes after that
call : (out opening first second new name a b c rest : List ℕ) → opening ≡ out ++ (name ++ 40 ∷ []) → first ≡ opening ++ a → second ≡ first ++ 44 ∷ b → new ≡ second ++ 44 ∷ (c ++ (rest ++ 41 ∷ [])) → new ≡ out ++ (name ++ 40 ∷ (a ++ ((44 ∷ (b ++ 44 ∷ (c ++ rest))) ++ 41 ∷ [])))
call out opening first second new name a b c rest e f k h = rw (h, k, f, e) (simp append_assoc)

pub call_on_ok : {T E : Type 0} (r : Result T E) (out opening first second new name a b c rest : List ℕ) → opening ≡ out ++ (name ++ 40 ∷ []) → first ≡ opening ++ a → second ≡ first ++ 44 ∷ b → OnOk r (new ≡ second ++ 44 ∷ (c ++ (rest ++ 41 ∷ [])))
    → OnOk r (new ≡ out ++ (name ++ 40 ∷ (a ++ ((44 ∷ (b ++ 44 ∷ (c ++ rest))) ++ 41 ∷ []))))
call_on_ok (Ok x) out opening first second new name a b c rest e f k h = call out opening first second new name a b c rest e f k h
call_on_ok (Err x) out opening first second new name a b c rest e f k h = tt

-- a name with two arguments
call_of_two : (out opening first second new name a b : List ℕ) → opening ≡ out ++ (name ++ 40 ∷ []) → first ≡ opening ++ a → second ≡ first ++ 44 ∷ b → new ≡ second ++ 41 ∷ [] → new ≡ out ++ (name ++ 40 ∷ (a ++ 44 ∷ ((b ++ []) ++ 41 ∷ [])))
call_of_two out opening first second new name a b e f k h = rw (h, k, f, e) (simp (append_assoc, append-nil))

pub call_of_two_on_ok : {T E : Type 0} (r : Result T E) (out opening first second new name a b : List ℕ) → opening ≡ out ++ (name ++ 40 ∷ []) → first ≡ opening ++ a → second ≡ first ++ 44 ∷ b → OnOk r (new ≡ second ++ 41 ∷ []) → OnOk r (new ≡ out ++ (name ++ 40 ∷ (a ++ 44 ∷ ((b ++ []) ++ 41 ∷ []))))
call_of_two_on_ok (Ok x) out opening first second new name a b e f k h = call_of_two out opening first second new name a b e f k h
call_of_two_on_ok (Err x) out opening first second new name a b e f k h = tt

-- one more number, with its comma
pub numbered_on : {X : Type 0} (f : X → ℕ) (old out new : List ℕ) (xs : List X) (i : ℕ) (x : X) → i < length xs → x ≡ get_or xs i x
    → old ++ more_ids_text (map f xs) ≡ out ++ more_ids_text (map f (drop i xs)) → new ≡ out ++ 44 ∷ decimal (f x)
    → old ++ more_ids_text (map f xs) ≡ new ++ more_ids_text (map f (drop (i + 1) xs))
numbered_on f old out new xs i x lt at h e =
    h ∙ at_drop_more (λ ys. out ++ more_ids_text (map f ys)) xs i x lt ∙ ap (λ y. out ++ more_ids_text (map f (y ∷ drop (i + 1) xs))) (sym at)
    ∙ sym (append_assoc out (44 ∷ decimal (f x)) (more_ids_text (map f (drop (i + 1) xs)))) ∙ ap (λ t. t ++ more_ids_text (map f (drop (i + 1) xs))) (sym e)

-- the last number was written
pub all_numbered : {X : Type 0} (f : X → ℕ) (old out : List ℕ) (xs : List X) (i : ℕ) → length xs ≤ i → old ++ more_ids_text (map f xs) ≡ out ++ more_ids_text (map f (drop i xs)) → out ≡ old ++ more_ids_text (map f xs)
all_numbered f old out xs i past h = sym (h ∙ (ap (λ ys. out ++ more_ids_text (map f ys)) (drop_all i xs past) ∙ append-nil out))
