-- The first place at which a test passes.
use Rattle.std.proofs.Common.{◌≡◌, ℕ, suc, ◌+◌, ◌<◌, Bool, true, false, cond, not, ◌||◌, List, [], ◌∷◌, length, get_or, map, refl, sym, ap, ◌∙◌, arith, Option, Some, None, is_some, nat_lt, position, inl, inr}
use Rattle.std.specs.List.{list_any, position_or_len}
use Rattle.std.specs.Cmp.{both_ways}
use Rattle.std.proofs.lemmas.Bool.{ltb-true, ltb-false, lt-ltb, le-ltb, cases_Bool}
use Rattle.std.proofs.lemmas.List.{length-map}
use Rattle.std.proofs.lemmas.List.Sums.{fails_before_first, position_or_len_is}

place_in : ℕ → ℕ → Option ℕ
place_in m n = cond (nat_lt m n) (Some m) None

one_further : (b c : Bool) (m n : ℕ) → b ≡ c → m ≡ n → cond (not b) (1 + m) 0 ≡ cond (not c) (1 + n) 0
one_further b c m n e f = cc

-- tests that agree on the elements find the same place
position_or_len-map : {X Y : Type 0} (p : X → Bool) (q : Y → Bool) (f : X → Y) (xs : List X) → ((k : ℕ) (d : X) → k < length xs → p (get_or xs k d) ≡ q (f (get_or xs k d))) → position_or_len p xs ≡ position_or_len q (map f xs)
position_or_len-map p q f [] h = refl
position_or_len-map p q f (x ∷ xs) h = one_further (p x) (q (f x)) _ _ (h 0 x (omega arith)) (position_or_len-map p q f xs (λ k d lt. h (suc k) d (omega arith)))

pub position-map : {X Y : Type 0} (p : X → Bool) (q : Y → Bool) (f : X → Y) (xs : List X) → ((k : ℕ) (d : X) → k < length xs → p (get_or xs k d) ≡ q (f (get_or xs k d))) → position p xs ≡ position q (map f xs)
position-map p q f xs h = rw (position_or_len-map p q f xs h, length-map)

never : {X : Type 0} (xs : List X) → position_or_len (λ x. false) xs ≡ length xs
never [] = refl
never (x ∷ xs) = omega (arith, never xs)

past : (n : ℕ) → cond (nat_lt n n) (Some n) None ≡ None
past n = ap (λ b. cond b (Some n) None) (le-ltb n n (omega arith))

none_ever : {X : Type 0} (xs : List X) → position (λ x. false) xs ≡ None
none_ever xs = rw (never xs) (past (length xs))

-- a test that fails at each element finds none
pub position-none : {X : Type 0} (p : X → Bool) (xs : List X) → ((k : ℕ) (d : X) → k < length xs → p (get_or xs k d) ≡ false) → position p xs ≡ None
position-none p xs h = position-map p (λ y. false) (λ x. x) xs h ∙ none_ever (map (λ x. x) xs)

some_not_none : (m : ℕ) → Some m ≡ None → ⊥
some_not_none m e = cc

-- where none is found, the test fails at each element
fails_from : (m n k : ℕ) → cond (nat_lt m n) (Some m) None ≡ None → k < n → k < m
fails_from m n k none lt = elim (cases_Bool (nat_lt m n)) [ inl e ↦ absurd (some_not_none m (sym (ap (λ b. cond b (Some m) None) e) ∙ none)) | inr e ↦ omega (arith, ltb-false m n e) ]

pub position-none_at : {X : Type 0} (p : X → Bool) (xs : List X) (k : ℕ) (d : X) → position p xs ≡ None → k < length xs → p (get_or xs k d) ≡ false
position-none_at p xs k d none lt = fails_before_first p xs k d (fails_from (position_or_len p xs) (length xs) k none lt)

in_place : (m n k : ℕ) → m ≡ k → k < n → cond (nat_lt m n) (Some m) None ≡ Some k
in_place m n k e lt = ap (λ j. cond (nat_lt j n) (Some j) None) e ∙ ap (λ b. cond b (Some k) None) (lt-ltb k n lt)

-- the first element that passes
pub position-at : {X : Type 0} (p : X → Bool) (xs : List X) (k : ℕ) (d : X) → k < length xs → ((j : ℕ) → j < k → p (get_or xs j d) ≡ false) → p (get_or xs k d) ≡ true → position p xs ≡ Some k
position-at p xs k d lt before here = in_place (position_or_len p xs) (length xs) k (position_or_len_is p xs k d (omega arith) before (λ h. here)) lt

first_or_later : (b : Bool) (m n : ℕ) (c : Bool) → nat_lt m n ≡ c → nat_lt (cond (not b) (1 + m) 0) (suc n) ≡ b || c
first_or_later true m n c e = lt-ltb 0 (suc n) (omega arith)
first_or_later false m n c e = both_ways (nat_lt (1 + m) (suc n)) (nat_lt m n) (λ h. lt-ltb m n (omega (arith, ltb-true (1 + m) (suc n) h))) (λ h. lt-ltb (1 + m) (suc n) (omega (arith, ltb-true m n h))) ∙ e

some_any_by : {X : Type 0} (p : X → Bool) (xs : List X) → nat_lt (position_or_len p xs) (length xs) ≡ list_any p xs
some_any_by p [] = refl
some_any_by p (x ∷ xs) = first_or_later (p x) _ _ _ (some_any_by p xs)

is_some-cond : (b : Bool) (m : ℕ) → is_some (cond b (Some m) None) ≡ b
is_some-cond true m = refl
is_some-cond false m = refl

-- whether there is such a place
pub is_some-position : {X : Type 0} (p : X → Bool) (xs : List X) → is_some (position p xs) ≡ list_any p xs
is_some-position p xs = is_some-cond (nat_lt (position_or_len p xs) (length xs)) (position_or_len p xs) ∙ some_any_by p xs
