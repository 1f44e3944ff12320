-- The fronts behind one, one after another.
use Rattle.std.proofs.Common.{◌≡◌, ◌∙◌, ◌<◌, ◌≤◌, ◌+◌, ◌-◌, ◌++◌, ◌∷◌, [], Bool, List, None, Option, Some, add-one, ap, append-nil, arith, cond, false, length, length-append, nat_lt, not, refl, suc, sym, true, zero, ℕ}
use Rattle.std.proofs.lemmas.Bool.{lt-ltb}
use Rattle.std.specs.Prelude.{filter, flat_map, slice_get, take}
use Rattle.chr_semantics.specs.Keys.{rows_of}
use Rattle.chr_semantics.specs.Program.{Head, Rule}
use Rattle.chr_semantics.specs.Search.{has_number}
use Rattle.chr_semantics.specs.State.{State}
use Rattle.chr_semantics.specs.Lists.{for_head, fronts_from, is_parted}
use Rattle.chr_look.proofs.Fronted.{taken_all, taken_before}

pub joined : {X : Type 0} (xs ys zs : List X) → (xs ++ ys) ++ zs ≡ xs ++ (ys ++ zs)
joined [] ys zs = refl
joined (x ∷ xs) ys zs = ap (λ ws. x ∷ ws) (joined xs ys zs)

-- ---- where as many as may be were looked at

taken_short : {X : Type 0} (n : ℕ) (xs : List X) → length (take n xs) ≤ length xs
taken_short zero xs = omega arith
taken_short (suc n) [] = omega arith
taken_short (suc n) (x ∷ xs) = let rest = taken_short n xs in omega (arith, rest)

pub none_more : {X : Type 0} (all more : List X) → 1000000 ≤ length (take 1000000 all) → take 1000000 (all ++ more) ≡ take 1000000 all
none_more all more full = let l = taken_short 1000000 all in taken_before 1000000 all more (omega (arith, l, full))

pub is_cut : {X : Type 0} (all more : List X) → 1000000 ≤ length (take 1000000 all) → 0 < length more → true ≡ nat_lt 1000000 (length (all ++ more))
is_cut all more full some = let l = taken_short 1000000 all in sym (lt-ltb 1000000 (length (all ++ more)) (omega (arith, l, full, some, length-append all more)))

-- ---- a walk over the next constraints

pub walk_more : {X Y : Type 0} (f : X → List Y) (g : X → Bool) (xs : List X) (i : ℕ) (x : X) → slice_get xs i ≡ Some x → flat_map f (filter g (take (i + 1) xs)) ≡ flat_map f (filter g (take i xs)) ++ cond (g x) (f x) []
walk_more f g xs i x is = ap (λ n. flat_map f (filter g (take n xs))) (add-one i) ∙ by_suc xs i is
  where
    one : (b : Bool) (y : _) → flat_map f (cond b (y ∷ []) []) ≡ cond b (f y) []
    one true y = append-nil (f y)
    one false y = refl

    kept : (b : Bool) (y : _) (a c d : List _) → flat_map f a ≡ flat_map f c ++ d → flat_map f (cond b (y ∷ a) a) ≡ flat_map f (cond b (y ∷ c) c) ++ d
    kept true y a c d h = ap (λ zs. f y ++ zs) h ∙ sym (joined (f y) (flat_map f c) d)
    kept false y a c d h = h

    by_suc : (xs : List _) (i : ℕ) → slice_get xs i ≡ Some x → flat_map f (filter g (take (suc i) xs)) ≡ flat_map f (filter g (take i xs)) ++ cond (g x) (f x) []
    by_suc [] i is = cc
    by_suc (y ∷ ys) zero is = let same : y ≡ x = cc in one (g y) y ∙ ap (λ z. cond (g z) (f z) []) same
    by_suc (y ∷ ys) (suc i) is = kept (g y) y (filter g (take (suc i) ys)) (filter g (take i ys)) (cond (g x) (f x) []) (by_suc ys i is)

pub walk_all : {X Y : Type 0} (f : X → List Y) (g : X → Bool) (xs : List X) (i : ℕ) → length xs ≤ i → flat_map f (filter g (take i xs)) ≡ flat_map f (filter g xs)
walk_all f g xs i h = ap (λ ys. flat_map f (filter g ys)) (taken_all i xs h)

module _ (s : State) (r : ℕ) (rule : Rule) (ids : List ℕ) where
  -- the fronts that have one constraint more, and those that begin with them
  abbrev pub behind : ℕ → ℕ → List (List ℕ)
  behind f n = flat_map (λ i. fronts_from s r rule n (ids ++ i ∷ [])) (filter (λ i. not (has_number ids i)) (rows_of s.store f))

  pub from_more : (h : Head) → is_parted s r rule ids ≡ false → length ids < length rule.heads → slice_get rule.heads (length ids) ≡ Some h
      → fronts_from s r rule (length rule.heads - length ids) ids ≡ ids ∷ behind h.atom.sym (length rule.heads - (length ids + 1))
  from_more h like less is = let one : length rule.heads - length ids ≡ suc (length rule.heads - (length ids + 1)) = omega (arith, less) in ap (λ n. fronts_from s r rule n ids) one ∙ rw (like, is) refl

  pub from_whole : length ids ≡ length rule.heads → fronts_from s r rule (length rule.heads - length ids) ids ≡ ids ∷ []
  from_whole whole = let none : length rule.heads - length ids ≡ 0 = omega (arith, whole) in ap (λ n. fronts_from s r rule n ids) none

pub added : {X : Type 0} (all : List X) (x : X) (more : List X) → (all ++ x ∷ []) ++ more ≡ all ++ x ∷ more
added all x more = joined all (x ∷ []) more
