-- Lists by positions.
use Rattle.std.proofs.Common.{Bool, List, None, Option, Some, [], ap, arith, false, inl, inr, refl, sym, true, true≢false, zero, suc, ℕ, ◌++◌, ◌==◌, ◌||◌, ◌∙◌, ◌∷◌, ◌≡◌, ◌⊎◌, length, map}
use Rattle.std.proofs.lemmas.Bool.{and_from, and_parts, eq-eqb, eqb-true, or_parts}
use Rattle.std.specs.List.{list_all, list_any}
use Rattle.std.specs.Prelude.{◌<◌, slice_get, unwrap_or}
use Rattle.chr_semantics.specs.Search.{has_number}
use Rattle.chr_laws.specs.Kept.{Answered, passes}

pub truth : (b : Bool) → (b ≡ true → false ≡ true) → b ≡ false
truth true f = absurd (true≢false (sym (f refl)))
truth false f = refl

-- what stands there stands in the longer list
pub get_before : {X : Type 0} (xs ys : List X) (c : ℕ) (x : X) → slice_get xs c ≡ Some x → slice_get (xs ++ ys) c ≡ Some x
get_before [] ys c x e = cc
get_before (y ∷ xs) ys zero x e = e
get_before (y ∷ xs) ys (suc c) x e = get_before xs ys c x e

pub get_last : {X : Type 0} (xs : List X) (x : X) → slice_get (xs ++ x ∷ []) (length xs) ≡ Some x
get_last [] x = refl
get_last (y ∷ xs) x = get_last xs x

-- what stands in the longer list stood there, or is the last
pub get_cases : {X : Type 0} (xs : List X) (y : X) (c : ℕ) (x : X) → slice_get (xs ++ y ∷ []) c ≡ Some x → (slice_get xs c ≡ Some x) ⊎ ((c ≡ length xs) × (x ≡ y))
get_cases [] y zero x e = inr (refl, cc)
get_cases [] y (suc c) x e = cc
get_cases (z ∷ xs) y zero x e = inl e
get_cases (z ∷ xs) y (suc c) x e = elim (get_cases xs y c x e) [
  | inl h ↦ inl h
  | inr h ↦ inr (ap suc h.0, h.1)
]

-- below the length something stands
pub get_some : {X : Type 0} (xs : List X) (i : ℕ) (d : X) → i < length xs → slice_get xs i ≡ Some (unwrap_or (slice_get xs i) d)
get_some [] i d h = absurd (omega (arith, h))
get_some (x ∷ xs) zero d h = refl
get_some (x ∷ xs) (suc i) d h = get_some xs i d (omega (arith, h))

pub any_mapped : {X Y : Type 0} (f : Y → Bool) (g : X → Y) (xs : List X) (c : ℕ) (x : X) → slice_get xs c ≡ Some x → f (g x) ≡ true → list_any f (map g xs) ≡ true
any_mapped f g [] c x e h = cc
any_mapped f g (y ∷ xs) zero x e h = rw (here e) refl
  where
    here : Some y ≡ Some x → f (g y) ≡ true
    here k = let same : y ≡ x = cc in ap (λ z. f (g z)) same ∙ h
any_mapped f g (y ∷ xs) (suc c) x e h = at (f (g y)) (any_mapped f g xs c x e h)
  where
    at : (b : Bool) → list_any f (map g xs) ≡ true → (b || list_any f (map g xs)) ≡ true
    at true k = refl
    at false k = k

pub none_mapped : {X Y : Type 0} (f : Y → Bool) (g : X → Y) (xs : List X) → ((c : ℕ) (x : X) → slice_get xs c ≡ Some x → f (g x) ≡ false) → list_any f (map g xs) ≡ false
none_mapped f g [] h = refl
none_mapped f g (x ∷ xs) h = rw (h zero x refl) (none_mapped f g xs (λ c y e. h (suc c) y e))

-- where no element passes, this one does not
pub none_of : (f : ℕ → Bool) (xs : List ℕ) (c : ℕ) → list_any f xs ≡ false → has_number xs c ≡ true → f c ≡ false
none_of f [] c h k = cc
none_of f (x ∷ xs) c h k = let r = or_parts (f x) (list_any f xs) h in at (c == x) refl k r.0 (none_of f xs c r.1)
  where
    at : (b : Bool) → (c == x) ≡ b → (b || has_number xs c) ≡ true → f x ≡ false → (has_number xs c ≡ true → f c ≡ false) → f c ≡ false
    at true is k l go = ap f (eqb-true c x is) ∙ l
    at false is k l go = go k

pub has_before : (xs ys : List ℕ) (c : ℕ) → has_number xs c ≡ true → has_number (xs ++ ys) c ≡ true
has_before [] ys c h = cc
has_before (x ∷ xs) ys c h = at (c == x) h (has_before xs ys c)
  where
    at : (b : Bool) → (b || has_number xs c) ≡ true → (has_number xs c ≡ true → has_number (xs ++ ys) c ≡ true) → (b || has_number (xs ++ ys) c) ≡ true
    at true k go = refl
    at false k go = go k

pub has_last : (xs : List ℕ) (c : ℕ) → has_number (xs ++ c ∷ []) c ≡ true
has_last [] c = at (c == c) (eq-eqb c c refl)
  where
    at : (b : Bool) → b ≡ true → (b || false) ≡ true
    at true h = refl
    at false h = h
has_last (x ∷ xs) c = at (c == x) (has_last xs c)
  where
    at : (b : Bool) → has_number (xs ++ c ∷ []) c ≡ true → (b || has_number (xs ++ c ∷ []) c) ≡ true
    at true h = refl
    at false h = h

pub all_weaker : (f g : ℕ → Bool) (xs : List ℕ) → ((c : ℕ) → f c ≡ true → g c ≡ true) → list_all f xs ≡ true → list_all g xs ≡ true
all_weaker f g [] h k = refl
all_weaker f g (x ∷ xs) h k = let r = and_parts (f x) (list_all f xs) k in and_from (g x) _ (h x r.0) (all_weaker f g xs h r.1)

pub all_one_more : (f : ℕ → Bool) (xs : List ℕ) (c : ℕ) → list_all f xs ≡ true → f c ≡ true → list_all f (xs ++ c ∷ []) ≡ true
all_one_more f [] c h k = and_from (f c) _ k refl
all_one_more f (x ∷ xs) c h k = let r = and_parts (f x) (list_all f xs) h in and_from (f x) _ r.0 (all_one_more f xs c r.1 k)

-- the answer that passes
pub passing : (test : Answered → Bool) (x : Option Answered) → passes test x ≡ true → (k : Answered) × (x ≡ Some k) × (test k ≡ true)
passing test None h = cc
passing test (Some k) h = (k, refl, h)

pub passes_before : (test : Answered → Bool) (xs ys : List Answered) (c : ℕ) → passes test (slice_get xs c) ≡ true → passes test (slice_get (xs ++ ys) c) ≡ true
passes_before test xs ys c h =
    let w = passing test (slice_get xs c) h in
    ap (passes test) (get_before xs ys c w.0 w.1) ∙ w.2

pub passes_same : (f g : Answered → Bool) (x : Option Answered) → ((k : Answered) → x ≡ Some k → f k ≡ g k) → passes f x ≡ passes g x
passes_same f g None h = refl
passes_same f g (Some k) h = h k refl
