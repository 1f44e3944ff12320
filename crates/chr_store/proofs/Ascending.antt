-- Ascending numbers, one of them taken out, and the places of identities among them.
use Rattle.std.proofs.Common.{◌≡◌, ◌≢◌, ◌∙◌, ℕ, zero, suc, ◌+◌, ◌-◌, ◌<◌, ◌≤◌, true, false, not, ◌==◌, List, [], ◌∷◌, ◌++◌, length, drop, get_or, refl, ap, sym, arith, ⊎_elim}
use Rattle.std.specs.Prelude.{All, AllPairs, Result, Ok, Err, filter}
use Rattle.std.specs.List.{remove}
use Rattle.std.specs.List.Sorted.{IsBinarySearchResult, IsSearchInRange, IsStrictlyIncreasing}
use Rattle.std.specs.Result.{MatchResult}
use Rattle.std.specs.Ordering.{nat_cmp}
use Rattle.std.proofs.lemmas.Bool.{cases_eq, cases_lt, eq-eqb, ne_eqb}
use Rattle.std.proofs.lemmas.List.{drop-append-le, drop-map, get_or-map, length-drop, length-map, map-append}
use Rattle.std.proofs.lemmas.List.Kept.{AllPairs-from_increasing}
use Rattle.std.proofs.lemmas.List.Sorted.{searched}
use Rattle.std.proofs.lemmas.List.Quantifiers.{all_pairs_push}
use Rattle.std.proofs.Math.ListN.{drop_of_length-le}
use Rattle.indexmap.proofs.SetLemmas.{map-remove}
use Rattle.chr_store.specs.Numbers.{numbers}
use Rattle.chr_store.specs.declared.id.Id.{Id}

-- without the number x
abbrev pub without : ℕ → List ℕ → List ℕ
without x xs = filter (λ y. not (y == x)) xs

-- a number that is not there
pub without_absent : (x : ℕ) (xs : List ℕ) → ((k : ℕ) → k < length xs → get_or xs k 0 ≢ x) → without x xs ≡ xs
without_absent x [] h = refl
without_absent x (y ∷ ys) h = rw (ne_eqb y x (h 0 (omega arith))) (ap (λ l. y ∷ l) (without_absent x ys (λ k inside. h (suc k) (omega arith))))

-- the number at a place
pub without_at : (i x : ℕ) (xs : List ℕ) → AllPairs (λ y z. y < z) xs → i < length xs → get_or xs i 0 ≡ x → remove xs i ≡ without x xs
without_at i x [] up inside is = absurd (omega arith)
without_at zero x (y ∷ ys) up inside is =
    rw (eq-eqb y x is, without_absent x ys (λ k lt same. let less : y < get_or ys k 0 = up 0 (suc k) 0 (omega arith) (omega arith) in omega arith)) refl
without_at (suc i) x (y ∷ ys) up inside is =
    let less : y < get_or ys i 0 = up 0 (suc i) 0 (omega arith) inside in
    let apart : y ≢ x = omega arith in
    let rest : remove ys i ≡ without x ys = without_at i x ys (λ j k d lt within. up (suc j) (suc k) d (omega arith) (omega arith)) (omega arith) is in
    rw (ne_eqb y x apart, sym rest) refl

-- a binary search over identities is one over their numbers
pub searched_numbers : (x : Id) (ids : List Id) (r : Result ℕ ℕ) → IsSearchInRange r (length ids) → IsBinarySearchResult (λ (y : Id). nat_cmp y.0 x.0) ids r → IsBinarySearchResult (λ y. nat_cmp y x.0) (numbers ids) r
searched_numbers x ids (Ok i) within h = λ d. rw (get_or-map (λ (j : Id). j.0) ids i x d within) (h x)
searched_numbers x ids (Err i) within h = λ up.
    let n : length (numbers ids) ≡ length ids = length-map ids (λ (j : Id). j.0) in
    let parts = h (λ a b d le inside.
    let f = up a b d.0 le (omega (arith, n)) in
    rw (get_or-map (λ (j : Id). j.0) ids a d d.0 (omega (arith, le, inside)), get_or-map (λ (j : Id). j.0) ids b d d.0 inside) at f) in (
      λ k d low high. rw (get_or-map (λ (j : Id). j.0) ids k x d (omega (arith, within))) (parts.0 k x low high),
      λ k d low high. let inside : k < length ids = omega (arith, n) in rw (get_or-map (λ (j : Id). j.0) ids k x d inside) (parts.1 k x low inside),
    )

pub ascends : (xs : List ℕ) → IsStrictlyIncreasing xs → (i j : ℕ) → i ≤ j → j < length xs → get_or xs i 0 ≤ get_or xs j 0
ascends xs up i j le inside = ⊎_elim (λ same. omega (arith, ap (λ k. get_or xs k 0) same)) (λ apart. let less : get_or xs i 0 < get_or xs j 0 = AllPairs-from_increasing xs up i j 0 (omega arith) inside in omega arith) (cases_eq i j)

-- the place of an identity, or there is nothing to take out
pub placed : (x : Id) (ids : List Id) (r : Result ℕ ℕ) → IsSearchInRange r (length ids) → IsBinarySearchResult (λ (y : Id). nat_cmp y.0 x.0) ids r → IsStrictlyIncreasing (numbers ids)
    → MatchResult r (λ i. (i < length ids) × (get_or (numbers ids) i 0 ≡ x.0)) (λ i. without x.0 (numbers ids) ≡ numbers ids)
placed x ids (Ok i) within h up = let s = searched (numbers ids) x.0 (Ok i) (searched_numbers x ids (Ok i) within h) (ascends (numbers ids) up) in (within, s.1)
placed x ids (Err i) within h up =
    let s = searched (numbers ids) x.0 (Err i) (searched_numbers x ids (Err i) within h) (ascends (numbers ids) up) in
    without_absent x.0 (numbers ids) (λ k inside same. ⊎_elim (λ below. let less : get_or (numbers ids) k 0 < x.0 = s.1 k below in omega arith) (λ past. let more : x.0 < get_or (numbers ids) k 0 = s.2 k past inside in omega arith) (cases_lt k i))

-- without the k-th, past a start
pub drop_remove : {X : Type 0} (xs : List X) (s i k : ℕ) → k ≡ s + i → k < length xs → drop s (remove xs k) ≡ remove (drop s xs) i
drop_remove [] s i k e inside = absurd (omega arith)
drop_remove (x ∷ xs) zero i k e inside = let same : k ≡ i = omega arith in ap (remove (x ∷ xs)) same
drop_remove (x ∷ xs) (suc s) i zero e inside = absurd (omega arith)
drop_remove (x ∷ xs) (suc s) i (suc k) e inside = drop_remove xs s i k (omega arith) (omega arith)

drop_more : {X : Type 0} (xs : List X) (s : ℕ) → drop (s + 1) xs ≡ drop 1 (drop s xs)
drop_more [] zero = refl
drop_more [] (suc s) = drop_of_length-le [] (omega arith)
drop_more (x ∷ xs) zero = refl
drop_more (x ∷ xs) (suc s) = let e : suc s + 1 ≡ suc (s + 1) = omega arith in rw e (drop_more xs s)

-- an identity taken out at its place
pub taken_at : (ids : List Id) (s i k x : ℕ) → IsStrictlyIncreasing (numbers (drop s ids)) → k ≡ s + i → i < length (drop s ids) → get_or (numbers (drop s ids)) i 0 ≡ x → numbers (drop s (remove ids k)) ≡ without x (numbers (drop s ids))
taken_at ids s i k x up e inside is =
    let n : length (numbers (drop s ids)) ≡ length (drop s ids) = length-map (drop s ids) (λ (j : Id). j.0) in
    let m : length (drop s ids) ≡ length ids - s = length-drop s ids in
    ap numbers (drop_remove ids s i k e (omega (arith, m, inside))) ∙ (map-remove (λ (j : Id). j.0) (drop s ids) i ∙ without_at i x (numbers (drop s ids)) (AllPairs-from_increasing (numbers (drop s ids)) up) (omega (arith, n, inside)) is)

-- and the first one
pub taken_first : (ids : List Id) (s x : ℕ) → IsStrictlyIncreasing (numbers (drop s ids)) → 0 < length (drop s ids) → get_or (numbers (drop s ids)) 0 0 ≡ x → numbers (drop (s + 1) ids) ≡ without x (numbers (drop s ids))
taken_first ids s x up inside is =
    let n : length (numbers (drop s ids)) ≡ length (drop s ids) = length-map (drop s ids) (λ (j : Id). j.0) in
    ap numbers (drop_more ids s) ∙ (sym (drop-map (λ (j : Id). j.0) 1 (drop s ids)) ∙ without_at 0 x (numbers (drop s ids)) (AllPairs-from_increasing (numbers (drop s ids)) up) (omega (arith, n, inside)) is)

-- a greater number at the end
pub increasing_push : (xs : List ℕ) (y : ℕ) → IsStrictlyIncreasing xs → All (λ x. x < y) xs → IsStrictlyIncreasing (xs ++ y ∷ [])
increasing_push xs y up below k within = all_pairs_push (λ a b. a < b) xs y (AllPairs-from_increasing xs up) below k (k + 1) 0 (omega arith) within

-- one more identity, past a start
pub numbers_push : (ids : List Id) (s : ℕ) (x : Id) → s ≤ length ids → numbers (drop s (ids ++ x ∷ [])) ≡ numbers (drop s ids) ++ x.0 ∷ []
numbers_push ids s x within = ap numbers (drop-append-le s ids (x ∷ []) within) ∙ map-append (λ (j : Id). j.0) (drop s ids) (x ∷ [])
