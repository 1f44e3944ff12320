-- What is counted of the fronts that were looked at, a front at a time.
use Rattle.std.proofs.Common.{◌≡◌, ◌∙◌, ◌<◌, ◌≤◌, ◌+◌, ◌++◌, ◌∷◌, ◌==◌, ◌&&◌, [], Bool, List, add-one, ap, arith, cond, drop, false, length, length-append, map, nat_lt, not, refl, suc, sym, true, zero, ℕ}
use Rattle.std.proofs.lemmas.Bool.{lt-leb}
use Rattle.std.specs.Prelude.{filter, flat_map, take}
use Rattle.chr_semantics.specs.Program.{Rule}
use Rattle.chr_semantics.specs.State.{State}
use Rattle.chr_semantics.specs.Tries.{capped}
use Rattle.chr_semantics.specs.Verdict.{Verdict, stage, verdict}
use Rattle.chr_semantics.specs.Lists.{fronts_from, furthest, is_last, is_nearer, is_parted, like, of_stage, put_in}

-- ---- the first few of a list

pub taken_all : {X : Type 0} (n : ℕ) (xs : List X) → length xs ≤ n → take n xs ≡ xs
taken_all zero [] h = refl
taken_all zero (x ∷ xs) h = absurd (omega (arith, h))
taken_all (suc n) [] h = refl
taken_all (suc n) (x ∷ xs) h = ap (λ ys. x ∷ ys) (taken_all n xs (omega (arith, h)))

pub taken_before : {X : Type 0} (n : ℕ) (xs ys : List X) → n ≤ length xs → take n (xs ++ ys) ≡ take n xs
taken_before zero xs ys h = refl
taken_before (suc n) [] ys h = absurd (omega (arith, h))
taken_before (suc n) (x ∷ xs) ys h = ap (λ zs. x ∷ zs) (taken_before n xs ys (omega (arith, h)))

-- ---- counts

counted_more : {X : Type 0} (f : X → Bool) (xs : List X) (x : X) → length (filter f (xs ++ x ∷ [])) ≡ length (filter f xs) + cond (f x) 1 0
counted_more f [] x = by (f x)
  where
    by : (b : Bool) → length (cond b (x ∷ []) []) ≡ 0 + cond b 1 0
    by true = refl
    by false = refl
counted_more f (y ∷ xs) x = by (f y) (counted_more f xs x)
  where
    by : (b : Bool) → length (filter f (xs ++ x ∷ [])) ≡ length (filter f xs) + cond (f x) 1 0
        → length (cond b (y ∷ filter f (xs ++ x ∷ [])) (filter f (xs ++ x ∷ []))) ≡ length (cond b (y ∷ filter f xs) (filter f xs)) + cond (f x) 1 0
    by true e = omega (arith, e)
    by false e = e

module _ (s : State) (r : ℕ) (rule : Rule) where
  pub like_more : (k : ℕ) (looked : List (List ℕ)) (ids : List ℕ) → like s r rule k (looked ++ ids ∷ []) ≡ like s r rule k looked + cond (length ids == k && not (is_parted s r rule ids)) 1 0
  like_more k looked ids = counted_more (λ (x : List ℕ). length x == k && not (is_parted s r rule x)) looked ids

  pub stage_more : (k : ℕ) (looked : List (List ℕ)) (ids : List ℕ) → of_stage s r rule k (looked ++ ids ∷ []) ≡ of_stage s r rule k looked + cond (is_last s r rule ids && stage (verdict s r rule ids) == k) 1 0
  stage_more k looked ids = counted_more (λ (x : List ℕ). is_last s r rule x && stage (verdict s r rule x) == k) looked ids

  pub furthest_more : (n : ℕ) (best : List (List ℕ × Verdict)) (looked : List (List ℕ)) (ids : List ℕ) → furthest s r rule n best (looked ++ ids ∷ [])
      ≡ cond (is_last s r rule ids && nat_lt 1 (stage (verdict s r rule ids))) (take n (put_in (furthest s r rule n best looked) (ids, verdict s r rule ids))) (furthest s r rule n best looked)
  furthest_more n best [] ids = refl
  furthest_more n best (x ∷ looked) ids = furthest_more n (cond (is_last s r rule x && nat_lt 1 (stage (verdict s r rule x))) (take n (put_in best (x, verdict s r rule x))) best) looked ids

  -- ---- fronts

  pub from_last : (n : ℕ) (ids : List ℕ) → is_parted s r rule ids ≡ true → fronts_from s r rule n ids ≡ ids ∷ []
  from_last zero ids parted = refl
  from_last (suc n) ids parted = rw parted refl

  pub some_fronts : (n : ℕ) (ids : List ℕ) → 0 < length (fronts_from s r rule n ids)
  some_fronts zero ids = omega arith
  some_fronts (suc n) ids = omega arith

-- ---- a place among lists

pub put_later : (x y : List ℕ × Verdict) (ys : List (List ℕ × Verdict)) (n : ℕ) → is_nearer x.1 y.1 ≡ false → put_in ys x ≡ take n ys ++ x ∷ drop n ys → put_in (y ∷ ys) x ≡ take (n + 1) (y ∷ ys) ++ x ∷ drop (n + 1) (y ∷ ys)
put_later x y ys n far h = rw far (ap (λ zs. y ∷ zs) h ∙ ap (λ m. take m (y ∷ ys) ++ x ∷ drop m (y ∷ ys)) (sym (add-one n)))

pub mapped_in : {X Y : Type 0} (f : X → Y) (xs : List X) (x : X) (n : ℕ) → map f (take n xs ++ x ∷ drop n xs) ≡ take n (map f xs) ++ f x ∷ drop n (map f xs)
mapped_in f [] x zero = refl
mapped_in f [] x (suc n) = refl
mapped_in f (y ∷ ys) x zero = refl
mapped_in f (y ∷ ys) x (suc n) = ap (λ zs. f y ∷ zs) (mapped_in f ys x n)

pub mapped_take : {X Y : Type 0} (f : X → Y) (xs : List X) (n : ℕ) → map f (take n xs) ≡ take n (map f xs)
mapped_take f [] zero = refl
mapped_take f [] (suc n) = refl
mapped_take f (y ∷ ys) zero = refl
mapped_take f (y ∷ ys) (suc n) = ap (λ zs. f y ∷ zs) (mapped_take f ys n)

-- ---- where not as many as may be were looked at

pub taken_less : {X : Type 0} (n : ℕ) (xs : List X) → length (take n xs) < n → length xs < n
taken_less zero xs h = absurd (omega (arith, h))
taken_less (suc n) [] h = omega arith
taken_less (suc n) (x ∷ xs) h = let rest : length xs < n = taken_less n xs (omega (arith, h)) in omega (arith, rest)

few : {X : Type 0} (f : X → Bool) (xs : List X) → length (filter f xs) ≤ length xs
few f [] = omega arith
few f (x ∷ xs) = by (f x) (few f xs)
  where
    by : (b : Bool) → length (filter f xs) ≤ length xs → length (cond b (x ∷ filter f xs) (filter f xs)) ≤ length (x ∷ xs)
    by true h = omega (arith, h)
    by false h = omega (arith, h)

one_more_or_none : (a b : Bool) (c new : ℕ) → c < 1000000 → new ≡ cond (a && b) (capped (c + 1)) c → new ≡ c + cond (b && a) 1 0
one_more_or_none true true c new h e = omega (arith, h, e)
one_more_or_none true false c new h e = omega (arith, e)
one_more_or_none false true c new h e = omega (arith, e)
one_more_or_none false false c new h e = omega (arith, e)

-- one front more is looked at
module _ (s : State) (r : ℕ) (rule : Rule) (all : List (List ℕ)) (ids : List ℕ) (room : length (take 1000000 all) < 1000000) where
  fits_all : take 1000000 all ≡ all
  fits_all = let l = taken_less 1000000 all room in taken_all 1000000 all (omega (arith, l))

  pub looked_more : take 1000000 (all ++ ids ∷ []) ≡ take 1000000 all ++ ids ∷ []
  looked_more =
      let l = taken_less 1000000 all room in
      taken_all 1000000 (all ++ ids ∷ []) (omega (arith, l, length-append all (ids ∷ []))) ∙ sym (ap (λ xs. xs ++ ids ∷ []) fits_all)

  pub like_noted : (k len c new : ℕ) (adds : Bool) → len ≡ length ids → adds ≡ not (is_parted s r rule ids) → c ≡ like s r rule k (take 1000000 all) → new ≡ cond (adds && len == k) (capped (c + 1)) c → new ≡ like s r rule k (take 1000000 (all ++ ids ∷ []))
  like_noted k len c new adds long not_parted before more =
      let less : c < 1000000 = let l = few (λ (x : List ℕ). length x == k && not (is_parted s r rule x)) (take 1000000 all) in omega (arith, before, l, room) in
      one_more_or_none adds (len == k) c new less more ∙ (λ h. before h + cond (long h == k && not_parted h) 1 0) ∙ sym (ap (like s r rule k) looked_more ∙ like_more s r rule k (take 1000000 all) ids)

  pub stage_noted : (k place c new : ℕ) (last : Bool) → place ≡ stage (verdict s r rule ids) → last ≡ is_last s r rule ids → c ≡ of_stage s r rule k (take 1000000 all) → new ≡ cond (last && place == k) (capped (c + 1)) c → new ≡ of_stage s r rule k (take 1000000 (all ++ ids ∷ []))
  stage_noted k place c new last place_is last_is before more =
      let less : c < 1000000 = let l = few (λ (x : List ℕ). is_last s r rule x && stage (verdict s r rule x) == k) (take 1000000 all) in omega (arith, before, l, room) in
      one_more_or_none last (place == k) c new less more ∙ ap (λ b. c + cond b 1 0) (turned (place == k) last) ∙ (λ h. before h + cond (last_is h && place_is h == k) 1 0)
      ∙ sym (ap (of_stage s r rule k) looked_more ∙ stage_more s r rule k (take 1000000 all) ids)
    where
      turned : (a b : Bool) → (a && b) ≡ (b && a)
      turned true true = refl
      turned true false = refl
      turned false true = refl
      turned false false = refl

  pub furthest_noted : (n : ℕ) (c new : List (List ℕ × Verdict)) (keeps : Bool) (x : List ℕ × Verdict) → keeps ≡ (is_last s r rule ids && nat_lt 1 (stage (verdict s r rule ids))) → x ≡ (ids, verdict s r rule ids) → c ≡ furthest s r rule n [] (take 1000000 all)
      → new ≡ cond keeps (take n (put_in c x)) c → new ≡ furthest s r rule n [] (take 1000000 (all ++ ids ∷ []))
  furthest_noted n c new keeps x keeps_is x_is before more =
      more ∙ (λ h. cond (keeps_is h) (take n (put_in (before h) (x_is h))) (before h)) ∙ sym (ap (furthest s r rule n []) looked_more ∙ furthest_more s r rule n [] (take 1000000 all) ids)

  pub looked_noted : (c new : ℕ) → c ≡ length (take 1000000 all) → new ≡ c + 1 → new ≡ length (take 1000000 (all ++ ids ∷ []))
  looked_noted c new before more = let long = length-append (take 1000000 all) (ids ∷ []) in omega (arith, before, more, long, ap (λ (xs : List (List ℕ)). length xs) looked_more)

  pub cut_noted : nat_lt 1000000 (length all) ≡ nat_lt 1000000 (length (all ++ ids ∷ []))
  cut_noted =
      let l = taken_less 1000000 all room in
      lt-leb 1000001 (length all) (omega (arith, l)) ∙ sym (lt-leb 1000001 (length (all ++ ids ∷ [])) (omega (arith, l, length-append all (ids ∷ []))))
