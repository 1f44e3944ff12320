-- Lemmas on lists.
use Rattle.std.proofs.Common.{◌≡◌, ◌≢◌, ℕ, zero, suc, ◌<◌, Bool, true, false, ◌==◌, ◌⊎◌, inl, inr, Some, List, [], ◌∷◌, ◌++◌, length, ap, refl, sym, subst, map, arith}
use Rattle.std.specs.Prelude.{All, AllPairs, Contains, slice_get, flat_map}
use Rattle.std.specs.List.{list_all}
use Rattle.std.proofs.lemmas.Bool.{and_parts, and_from}
use Rattle.std.proofs.lemmas.List.Elements.{All-nil, All-head, All-tail, All-append, Contains-append_left, Contains-append_right}
use Rattle.std.proofs.lemmas.List.Kept.{AllPairs-cons}

-- a test that passes where another does
pub list_all-more : {X : Type 0} (p q : X → Bool) (xs : List X) → ((x : X) → p x ≡ true → q x ≡ true) → list_all p xs ≡ true → list_all q xs ≡ true
list_all-more p q [] more h = refl
list_all-more p q (x ∷ xs) more h = let r = and_parts (p x) (list_all p xs) h in and_from (q x) (list_all q xs) (more x r.0) (list_all-more p q xs more r.1)

-- tests that agree where a third passes
pub list_all-same : {X : Type 0} (past p q : X → Bool) (xs : List X) → ((x : X) → past x ≡ true → p x ≡ q x) → list_all past xs ≡ true → list_all p xs ≡ list_all q xs
list_all-same past p q [] same h = refl
list_all-same past p q (x ∷ xs) same h = let r = and_parts (past x) (list_all past xs) h in cc (same x r.0, list_all-same past p q xs same r.1)

-- the element at a place
pub All-got : {X : Type 0} (P : X → Type 0) (xs : List X) (k : ℕ) (x : X) → slice_get xs k ≡ Some x → All P xs → P x
All-got P [] k x e h = cc
All-got P (y ∷ xs) zero x e h = let same : y ≡ x = cc in subst P same (All-head P y xs h)
All-got P (y ∷ xs) (suc k) x e h = All-got P xs k x e (All-tail P y xs h)

pub got_below : {X : Type 0} (xs : List X) (k : ℕ) (x : X) → slice_get xs k ≡ Some x → k < length xs
got_below [] k x e = cc
got_below (y ∷ xs) zero x e = omega arith
got_below (y ∷ xs) (suc k) x e = omega (arith, got_below xs k x e)

pub All-flat_map : {X Y : Type 0} (P : Y → Type 0) (g : X → List Y) (xs : List X) → All (λ x. All P (g x)) xs → All P (flat_map g xs)
All-flat_map P g [] h = All-nil P
All-flat_map P g (x ∷ xs) h = All-append P (g x) (flat_map g xs) (All-head (λ y. All P (g y)) x xs h) (All-flat_map P g xs (All-tail (λ y. All P (g y)) x xs h))

pub Contains-flat_map : {X Y : Type 0} (g : X → List Y) (xs : List X) (x : X) (y : Y) → Contains xs x → Contains (g x) y → Contains (flat_map g xs) y
Contains-flat_map g [] x y (k, below, e) h = absurd (omega arith)
Contains-flat_map g (z ∷ xs) x y (zero, below, e) h = Contains-append_left (g z) (flat_map g xs) y (subst (λ w. Contains (g w) y) (sym e) h)
Contains-flat_map g (z ∷ xs) x y (suc k, below, e) h = Contains-append_right (g z) (flat_map g xs) y (Contains-flat_map g xs x y (k, omega arith, e) h)

pub Contains-map : {X Y : Type 0} (f : X → Y) (xs : List X) (x : X) → Contains xs x → Contains (map f xs) (f x)
Contains-map f [] x (k, below, e) = absurd (omega arith)
Contains-map f (z ∷ xs) x (zero, below, e) = (zero, omega arith, ap f e)
Contains-map f (z ∷ xs) x (suc k, below, e) = let w = Contains-map f xs x (k, omega arith, e) in (suc w.0, omega (arith, w.1), w.2)

-- pairs of elements
pub AllPairs-nil : {X : Type 0} (R : X → X → Type 0) → AllPairs R []
AllPairs-nil R = λ i j d l m. absurd (omega arith)

pub AllPairs-head : {X : Type 0} (R : X → X → Type 0) (x : X) (xs : List X) → AllPairs R (x ∷ xs) → All (R x) xs
AllPairs-head R x xs h = λ k d below. h zero (suc k) d (omega arith) (omega arith)

pub AllPairs-tail : {X : Type 0} (R : X → X → Type 0) (x : X) (xs : List X) → AllPairs R (x ∷ xs) → AllPairs R xs
AllPairs-tail R x xs h = λ i j d l m. h (suc i) (suc j) d (omega arith) (omega arith)

pub AllPairs-append : {X : Type 0} (R : X → X → Type 0) (xs ys : List X) → AllPairs R xs → AllPairs R ys → All (λ x. All (R x) ys) xs → AllPairs R (xs ++ ys)
AllPairs-append R [] ys h k l = k
AllPairs-append R (x ∷ xs) ys h k l =
    AllPairs-cons R x (xs ++ ys) (All-append (R x) xs ys (AllPairs-head R x xs h) (All-head (λ y. All (R y) ys) x xs l))
    (AllPairs-append R xs ys (AllPairs-tail R x xs h) k (All-tail (λ y. All (R y) ys) x xs l))

-- what a list contains is its head, or stands after it
pub contains_cases : {X : Type 0} (x z : X) (xs : List X) → Contains (x ∷ xs) z → (x ≡ z) ⊎ Contains xs z
contains_cases x z xs (zero, lt, e) = inl e
contains_cases x z xs (suc k, lt, e) = inr (k, omega (arith, lt), e)

-- what has no length is empty
pub no_items : {X : Type 0} (xs : List X) → length xs ≡ 0 → xs ≡ []
no_items [] e = refl
no_items (x ∷ xs) e = absurd (omega (arith, e))
