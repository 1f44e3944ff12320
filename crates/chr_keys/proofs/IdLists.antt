-- Ascending numbers with one more or one less, and binary searches among identities.
use Rattle.std.proofs.Common.{◌≡◌, ◌∙◌, ℕ, zero, suc, ◌+◌, ◌<◌, ◌≤◌, Bool, true, false, not, cond, ◌&&◌, ◌||◌, ◌==◌, List, [], ◌∷◌, length, get_or, take, drop, refl, ap, sym, subst, arith, ◌⊎◌, ⊎_elim}
use Rattle.std.specs.Prelude.{All, AllPairs, Ok, Err}
use Rattle.std.specs.BTreeSet.{insert_key}
use Rattle.std.specs.List.{insert, remove}
use Rattle.std.specs.List.Sorted.{IsBinarySearchResult, IsSearchInRange, IsStrictlyIncreasing}
use Rattle.std.specs.Ordering.{match_ordering, nat_cmp}
use Rattle.std.specs.declared.cmp.Ordering.{Ordering}
use Rattle.std.specs.declared.cmp.Ordering.TheVariants.{Less, Equal, Greater}
use Rattle.std.proofs.lemmas.Bool.Decides.{Decides-eqb, nat_tests}
use Rattle.std.proofs.lemmas.Cmp.{ranked}
use Rattle.std.proofs.lemmas.List.{drop-map, length-map, map-append, take-map}
use Rattle.std.proofs.lemmas.List.Elements.{All-cons}
use Rattle.std.proofs.lemmas.List.Kept.{AllPairs-cons, AllPairs-from_increasing, IsStrictlyIncreasing-filter}
use Rattle.std.proofs.lemmas.List.Sorted.{searched}
use Rattle.std.proofs.lemmas.Map.Views.{All-insert_key, any-filter_same}
use Rattle.chr_semantics.specs.Search.{has_number}
use Rattle.chr_store.specs.Numbers.{numbers}
use Rattle.chr_store.specs.declared.id.Id.{Id}
use Rattle.chr_store.proofs.Ascending.{ascends, placed, searched_numbers, without, without_at}
use Rattle.chr_keys.specs.IdSets.{ids_set}
use Rattle.chr_keys.specs.declared.id_list.Items.{Items}

cmp_less : (x y : ℕ) → x < y → nat_cmp x y ≡ Less
cmp_less x y lt = grind (arith, nat_tests)

cmp_equal : (x y : ℕ) → x ≡ y → nat_cmp x y ≡ Equal
cmp_equal x y e = grind (arith, nat_tests)

cmp_greater : (x y : ℕ) → y < x → nat_cmp x y ≡ Greater
cmp_greater x y lt = grind (arith, nat_tests)

-- a number put where the lesser ones end
inserted : (x i : ℕ) (xs : List ℕ) → i ≤ length xs → ((k : ℕ) → k < i → get_or xs k 0 < x) → ((k : ℕ) → i ≤ k → k < length xs → x < get_or xs k 0) → insert xs i x ≡ insert_key nat_cmp xs x
inserted x zero [] within below above = refl
inserted x (suc i) [] within below above = absurd (omega arith)
inserted x zero (y ∷ ys) within below above = rw (cmp_less x y (above 0 (omega arith) (omega arith))) refl
inserted x (suc i) (y ∷ ys) within below above =
    rw (cmp_greater x y (below 0 (omega arith))) (ap (λ (l : List ℕ). y ∷ l) (inserted x i ys (omega arith) (λ k lt. below (suc k) (omega arith)) (λ k le lt. above (suc k) (omega arith) (omega arith))))

-- a number that is there
kept : (x i : ℕ) (xs : List ℕ) → AllPairs (λ y z. y < z) xs → i < length xs → get_or xs i 0 ≡ x → insert_key nat_cmp xs x ≡ xs
kept x i [] up inside is = absurd (omega arith)
kept x zero (y ∷ ys) up inside is = rw (cmp_equal x y (sym is)) refl
kept x (suc i) (y ∷ ys) up inside is =
    let less : y < get_or ys i 0 = up 0 (suc i) 0 (omega arith) inside in
    rw (cmp_greater x y (omega arith)) (ap (λ (l : List ℕ). y ∷ l) (kept x i ys (λ j k d lt within. up (suc j) (suc k) d (omega arith) (omega arith)) (omega arith) is))

-- ascending numbers with one more
AllPairs-put : (x : ℕ) (xs : List ℕ) → AllPairs (λ y z. y < z) xs → AllPairs (λ y z. y < z) (insert_key nat_cmp xs x)
AllPairs-put x [] up = AllPairs-cons (λ y z. y < z) x [] (λ k d inside. absurd (omega arith)) up
AllPairs-put x (y ∷ ys) up = by_order (nat_cmp x y) refl (AllPairs-put x ys (λ j k d lt within. up (suc j) (suc k) d (omega arith) (omega arith)))
  where
    above : All (λ z. y < z) ys
    above k d within = up 0 (suc k) d (omega arith) (omega arith)

    by_order : (o : Ordering) → nat_cmp x y ≡ o → AllPairs (λ y z. y < z) (insert_key nat_cmp ys x) → AllPairs (λ y z. y < z) (match_ordering o (x ∷ y ∷ ys) (y ∷ ys) (y ∷ insert_key nat_cmp ys x))
    by_order Less e go = let lt : x < y = ranked x y Less (sym e) in AllPairs-cons (λ y z. y < z) x (y ∷ ys) (All-cons (λ z. x < z) y ys lt (λ k d within. let more : y < get_or ys k d = above k d within in omega arith)) up
    by_order Equal e go = up
    by_order Greater e go = AllPairs-cons (λ y z. y < z) y (insert_key nat_cmp ys x) (All-insert_key nat_cmp x (λ z. y < z) ys above (ranked x y Greater (sym e))) go

increasing_put : (x : ℕ) (xs : List ℕ) → IsStrictlyIncreasing xs → IsStrictlyIncreasing (insert_key nat_cmp xs x)
increasing_put x xs up k within = AllPairs-put x xs (AllPairs-from_increasing xs up) k (k + 1) 0 (omega arith) within

-- which numbers there are with one more
or_cond : (t c : Bool) → (t || c) ≡ cond t true c
or_cond true c = refl
or_cond false c = refl

or_twice : (t c : Bool) → (t || c) ≡ cond t true (t || c)
or_twice true c = refl
or_twice false c = refl

or_turned : (s t c : Bool) → (s || cond t true c) ≡ cond t true (s || c)
or_turned s true c = or_true s
  where
    or_true : (s : Bool) → (s || true) ≡ true
    or_true true = refl
    or_true false = refl
or_turned s false c = refl

number_put : (i : ℕ) (ids : List ℕ) (j : ℕ) → has_number (insert_key nat_cmp ids i) j ≡ cond (j == i) true (has_number ids j)
number_put i [] j = or_cond (j == i) false
number_put i (y ∷ ys) j = by_order (nat_cmp i y) refl (number_put i ys j)
  where
    by_order : (o : Ordering) → nat_cmp i y ≡ o → has_number (insert_key nat_cmp ys i) j ≡ cond (j == i) true (has_number ys j)
        → has_number (match_ordering o (i ∷ y ∷ ys) (y ∷ ys) (y ∷ insert_key nat_cmp ys i)) j ≡ cond (j == i) true (has_number (y ∷ ys) j)
    by_order Less e go = or_cond (j == i) (has_number (y ∷ ys) j)
    by_order Equal e go = or_twice (j == y) (has_number ys j) ∙ ap (λ (z : ℕ). cond (j == z) true (has_number (y ∷ ys) j)) (sym (ranked i y Equal (sym e)))
    by_order Greater e go = ap (λ (t : Bool). j == y || t) go ∙ or_turned (j == y) (j == i) (has_number ys j)

not_and : (t c : Bool) → (not t && c) ≡ cond t false c
not_and true c = refl
not_and false c = refl

-- and with one more or one less
pub number_set : (i : ℕ) (b : Bool) (ids : List ℕ) (j : ℕ) → has_number (ids_set i b ids) j ≡ cond (j == i) b (has_number ids j)
number_set i true ids j = number_put i ids j
number_set i false ids j =
    any-filter_same (λ y. j == y) (λ y. not (y == i)) (not (j == i)) (λ y e. ap (λ (z : ℕ). not (z == i)) (sym ((Decides-eqb j y).0 e))) ids ∙ not_and (j == i) (has_number ids j)

numbers_insert : (ids : List Id) (i : ℕ) (x : Id) → numbers (insert ids i x) ≡ insert (numbers ids) i x.0
numbers_insert ids i x = map-append (λ (j : Id). j.0) (take i ids) (x ∷ drop i ids) ∙ rw (take-map (λ (j : Id). j.0) i ids, drop-map (λ (j : Id). j.0) i ids) refl

numbers_remove : (ids : List Id) (i : ℕ) → numbers (remove ids i) ≡ remove (numbers ids) i
numbers_remove ids i = map-append (λ (j : Id). j.0) (take i ids) (drop (suc i) ids) ∙ rw (take-map (λ (j : Id). j.0) i ids, drop-map (λ (j : Id). j.0) (suc i) ids) refl

-- nothing is left where the only number is taken out
pub set_only : (i : ℕ) (b : Bool) (ids : List ℕ) → ids ≡ i ∷ [] → b ≡ false → ids_set i b ids ≡ []
set_only i b ids e f = rw (e, f, (Decides-eqb i i).1 refl) refl

-- what was in a list before it was copied, if it was
as_before : {A : Type 0} (old copied : Items A) → (copied ≡ old) ⊎ (copied.ids.items ≡ old.ids.items) → copied.ids.items ≡ old.ids.items
as_before {A = A} old copied = ⊎_elim (ap (λ (x : Items A). x.ids.items)) (λ e. e)

-- An identity x, where a list of these numbers was searched for it.
module _ (x : Id) (found : List Id) (ns : List ℕ) (up : IsStrictlyIncreasing (numbers found)) (same : numbers found ≡ ns) (i : ℕ) where
  found_at : IsSearchInRange (Ok i) (length found) → IsBinarySearchResult (λ (y : Id). nat_cmp y.0 x.0) found (Ok i) → (i < length (numbers found)) × (get_or (numbers found) i 0 ≡ x.0)
  found_at within h = let n : length (numbers found) ≡ length found = length-map found (λ (j : Id). j.0) in let at = placed x found (Ok i) within h up in (omega (arith, n, at.0), at.1)

  pub put_there : IsSearchInRange (Ok i) (length found) → IsBinarySearchResult (λ (y : Id). nat_cmp y.0 x.0) found (Ok i) → ns ≡ insert_key nat_cmp ns x.0
  put_there within h =
      let at = found_at within h in
      subst (λ (l : List ℕ). l ≡ insert_key nat_cmp l x.0) same (sym (kept x.0 i (numbers found) (AllPairs-from_increasing (numbers found) up) at.0 at.1))

  pub taken_absent : IsSearchInRange (Err i) (length found) → IsBinarySearchResult (λ (y : Id). nat_cmp y.0 x.0) found (Err i) → ns ≡ without x.0 ns
  taken_absent within h = subst (λ (l : List ℕ). l ≡ without x.0 l) same (sym (placed x found (Err i) within h up))

  -- the list, or a copy of it, is changed
  module _ {A : Type 0} (old copied changed new : Items A) (view : numbers old.ids.items ≡ ns) (before : (copied ≡ old) ⊎ (copied.ids.items ≡ old.ids.items)) (after : new ≡ changed) where
    is_now : numbers copied.ids.items ≡ numbers found
    is_now = ap numbers (as_before old copied before) ∙ (view ∙ sym same)

    pub put_absent : IsSearchInRange (Err i) (length found) → IsBinarySearchResult (λ (y : Id). nat_cmp y.0 x.0) found (Err i) → changed.ids.items ≡ insert copied.ids.items i x
        → (numbers new.ids.items ≡ insert_key nat_cmp ns x.0) × IsStrictlyIncreasing (numbers new.ids.items)
    put_absent within h e =
        let s = searched (numbers found) x.0 (Err i) (searched_numbers x found (Err i) within h) (ascends (numbers found) up) in
        let put : numbers new.ids.items ≡ insert_key nat_cmp (numbers found) x.0 = ap (λ (y : Items A). numbers y.ids.items) after ∙ (ap numbers e ∙ (numbers_insert copied.ids.items i x ∙ (ap (λ (l : List ℕ). insert l i x.0) is_now ∙ inserted x.0 i (numbers found) s.0 s.1 s.2))) in
        (put ∙ ap (λ (l : List ℕ). insert_key nat_cmp l x.0) same, subst IsStrictlyIncreasing (sym put) (increasing_put x.0 (numbers found) up))

    pub taken_there : IsSearchInRange (Ok i) (length found) → IsBinarySearchResult (λ (y : Id). nat_cmp y.0 x.0) found (Ok i) → changed.ids.items ≡ remove copied.ids.items i
        → (numbers new.ids.items ≡ without x.0 ns) × IsStrictlyIncreasing (numbers new.ids.items)
    taken_there within h e =
        let at = found_at within h in
        let taken : numbers new.ids.items ≡ without x.0 (numbers found) = ap (λ (y : Items A). numbers y.ids.items) after ∙ (ap numbers e ∙ (numbers_remove copied.ids.items i ∙ (ap (λ (l : List ℕ). remove l i) is_now ∙ without_at i x.0 (numbers found) (AllPairs-from_increasing (numbers found) up) at.0 at.1))) in
        (taken ∙ ap (without x.0) same, subst IsStrictlyIncreasing (sym taken) (IsStrictlyIncreasing-filter (λ y. not (y == x.0)) (numbers found) up))
