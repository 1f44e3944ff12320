-- The tuples of a search are all lists of rows with different identities, in order.
use Rattle.std.proofs.Common.{◌≡◌, ℕ, zero, suc, ◌+◌, ◌<◌, Bool, true, false, cond, ◌==◌, Some, List, [], ◌∷◌, length, ap, refl, ◌∙◌, sym, subst, map, arith}
use Rattle.std.specs.Prelude.{◌≢◌, All, AllPairs, Contains, slice_get, flat_map}
use Rattle.std.specs.Cmp.Lexicographic.{slice_cmp}
use Rattle.std.specs.Ordering.{nat_cmp, ordering_then}
use Rattle.std.specs.declared.cmp.Ordering.TheVariants.{Less, Equal}
use Rattle.std.specs.Cmp.{nat_cmp_is}
use Rattle.std.proofs.lemmas.Bool.{or_left, or_right, or_from, true≢false, ne_eqb, eqb-true, eqb-false, eq-eqb}
use Rattle.std.proofs.lemmas.List.Elements.{All-nil, All-cons, All-head, All-tail, All-map, All-weaker, All-contains_itself}
use Rattle.std.proofs.lemmas.List.Kept.{AllPairs-cons, AllPairs-from_increasing}
use Rattle.chr_semantics.specs.Match.{Row}
use Rattle.chr_semantics.specs.Program.{Rule}
use Rattle.chr_semantics.specs.Search.{has_number, ids_of, tuples_from, tuples, IsTuple, TuplesLaw}
use Rattle.chr_semantics.proofs.Lists.{All-flat_map, Contains-flat_map, Contains-map, AllPairs-nil, AllPairs-head, AllPairs-tail, AllPairs-append}

-- the rows that may stand at the k-th head
abbrev choices : List Row → Row → ℕ → ℕ → List Row
choices rows a place k = cond (k == place) (a ∷ []) rows

-- the tuples that go on with the row c
abbrev going_on : List Row → Row → ℕ → ℕ → List ℕ → ℕ → Row → List (List Row)
going_on rows a place n used k c = elim (has_number used c.0) [ true ↦ [] | false ↦ map (λ others. c ∷ others) (tuples_from rows a place n (c.0 ∷ used) (k + 1)) ]

-- the same lists as a relation, head by head
abbrev IsFrom : List Row → Row → ℕ → ℕ → List ℕ → ℕ → List Row → Type 0
IsFrom rows a place zero used k [] = Unit {0}
IsFrom rows a place zero used k (c ∷ t) = ⊥
IsFrom rows a place (suc n) used k [] = ⊥
IsFrom rows a place (suc n) used k (c ∷ t) = (has_number used c.0 ≡ false) × Contains (choices rows a place k) c × IsFrom rows a place n (c.0 ∷ used) (k + 1) t

-- each tuple is such a list
from_at : (b : Bool) (rows : List Row) (a : Row) (place n : ℕ) (used : List ℕ) (k : ℕ) (c : Row) → has_number used c.0 ≡ b → Contains (choices rows a place k) c
    → All (IsFrom rows a place n (c.0 ∷ used) (k + 1)) (tuples_from rows a place n (c.0 ∷ used) (k + 1))
    → All (IsFrom rows a place (suc n) used k) (elim b [ true ↦ [] | false ↦ map (λ others. c ∷ others) (tuples_from rows a place n (c.0 ∷ used) (k + 1)) ])
from_at true rows a place n used k c is has h = All-nil (IsFrom rows a place (suc n) used k)
from_at false rows a place n used k c is has h =
    All-map (IsFrom rows a place (suc n) used k) (λ others. c ∷ others) (tuples_from rows a place n (c.0 ∷ used) (k + 1))
    (All-weaker (IsFrom rows a place n (c.0 ∷ used) (k + 1)) (λ t. IsFrom rows a place (suc n) used k (c ∷ t)) (λ t w. (is, has, w)) (tuples_from rows a place n (c.0 ∷ used) (k + 1)) h)

all_from : (rows : List Row) (a : Row) (place n : ℕ) (used : List ℕ) (k : ℕ) → All (IsFrom rows a place n used k) (tuples_from rows a place n used k)
all_from rows a place zero used k = All-cons (IsFrom rows a place zero used k) [] [] tt (All-nil (IsFrom rows a place zero used k))
all_from rows a place (suc n) used k =
    All-flat_map (IsFrom rows a place (suc n) used k) (going_on rows a place n used k) (choices rows a place k)
    (All-weaker (Contains (choices rows a place k)) (λ c. All (IsFrom rows a place (suc n) used k) (going_on rows a place n used k c))
    (λ c has. from_at (has_number used c.0) rows a place n used k c refl has (all_from rows a place n (c.0 ∷ used) (k + 1)))
    (choices rows a place k) (All-contains_itself (choices rows a place k)))

-- each such list is a tuple
contains_at : (b : Bool) (c : Row) (t : List Row) (ts : List (List Row)) → b ≡ false → Contains ts t → Contains (elim b [ true ↦ [] | false ↦ map (λ others. c ∷ others) ts ]) (c ∷ t)
contains_at true c t ts is h = absurd (true≢false is)
contains_at false c t ts is h = Contains-map (λ others. c ∷ others) ts t h

contains_from : (rows : List Row) (a : Row) (place n : ℕ) (used : List ℕ) (k : ℕ) (t : List Row) → IsFrom rows a place n used k t → Contains (tuples_from rows a place n used k) t
contains_from rows a place zero used k [] h = (zero, omega arith, refl)
contains_from rows a place zero used k (c ∷ t) h = absurd h
contains_from rows a place (suc n) used k [] h = absurd h
contains_from rows a place (suc n) used k (c ∷ t) h =
    Contains-flat_map (going_on rows a place n used k) (choices rows a place k) c (c ∷ t) h.1
    (contains_at (has_number used c.0) c t (tuples_from rows a place n (c.0 ∷ used) (k + 1)) h.0 (contains_from rows a place n (c.0 ∷ used) (k + 1) t h.2))

-- what such a list is
length_from : (rows : List Row) (a : Row) (place n : ℕ) (used : List ℕ) (k : ℕ) (t : List Row) → IsFrom rows a place n used k t → length t ≡ n
length_from rows a place zero used k [] h = refl
length_from rows a place zero used k (c ∷ t) h = absurd h
length_from rows a place (suc n) used k [] h = absurd h
length_from rows a place (suc n) used k (c ∷ t) h = let e : length t ≡ n = length_from rows a place n (c.0 ∷ used) (k + 1) t h.2 in ap suc e

avoids : (rows : List Row) (a : Row) (place n : ℕ) (used : List ℕ) (k i : ℕ) (t : List Row) → IsFrom rows a place n used k t → has_number used i ≡ true → All (λ j. i ≢ j) (ids_of t)
avoids rows a place zero used k i [] h is = All-nil (λ j. i ≢ j)
avoids rows a place zero used k i (c ∷ t) h is = absurd h
avoids rows a place (suc n) used k i [] h is = absurd h
avoids rows a place (suc n) used k i (c ∷ t) h is =
    All-cons (λ j. i ≢ j) c.0 (ids_of t) (λ e. true≢false (sym is ∙ ap (has_number used) e ∙ h.0)) (avoids rows a place n (c.0 ∷ used) (k + 1) i t h.2 (or_right (i == c.0) (has_number used i) is))

different_from : (rows : List Row) (a : Row) (place n : ℕ) (used : List ℕ) (k : ℕ) (t : List Row) → IsFrom rows a place n used k t → AllPairs (λ i j. i ≢ j) (ids_of t)
different_from rows a place zero used k [] h = AllPairs-nil (λ i j. i ≢ j)
different_from rows a place zero used k (c ∷ t) h = absurd h
different_from rows a place (suc n) used k [] h = absurd h
different_from rows a place (suc n) used k (c ∷ t) h =
    AllPairs-cons (λ i j. i ≢ j) c.0 (ids_of t) (avoids rows a place n (c.0 ∷ used) (k + 1) c.0 t h.2 (or_left (c.0 == c.0) (has_number used c.0) (eq-eqb c.0 c.0 refl))) (different_from rows a place n (c.0 ∷ used) (k + 1) t h.2)

chosen_here : (b : Bool) (rows : List Row) (a c : Row) → b ≡ true → Contains (cond b (a ∷ []) rows) c → c ≡ a
chosen_here true rows a c is (zero, below, e) = sym e
chosen_here true rows a c is (suc k, below, e) = absurd (omega arith)
chosen_here false rows a c is h = absurd (true≢false (sym is))

chosen_elsewhere : (b : Bool) (rows : List Row) (a c : Row) → b ≡ false → Contains (cond b (a ∷ []) rows) c → Contains rows c
chosen_elsewhere true rows a c is h = absurd (true≢false is)
chosen_elsewhere false rows a c is h = h

at_place_from : (rows : List Row) (a : Row) (place n : ℕ) (used : List ℕ) (k m : ℕ) (t : List Row) → IsFrom rows a place n used k t → k + m ≡ place → m < n → slice_get t m ≡ Some a
at_place_from rows a place zero used k m t h e l = absurd (omega (arith, l))
at_place_from rows a place (suc n) used k m [] h e l = absurd h
at_place_from rows a place (suc n) used k zero (c ∷ t) h e l = ap (λ (x : Row). Some x) (chosen_here (k == place) rows a c (eq-eqb k place (omega (arith, e))) h.1)
at_place_from rows a place (suc n) used k (suc m) (c ∷ t) h e l = at_place_from rows a place n (c.0 ∷ used) (k + 1) m t h.2 (omega (arith, e)) (omega (arith, l))

elsewhere_from : (rows : List Row) (a : Row) (place n : ℕ) (used : List ℕ) (k m : ℕ) (c : Row) (t : List Row) → IsFrom rows a place n used k t → k + m ≢ place → slice_get t m ≡ Some c → Contains rows c
elsewhere_from rows a place zero used k m c [] h other e = cc
elsewhere_from rows a place zero used k m c (d ∷ t) h other e = absurd h
elsewhere_from rows a place (suc n) used k m c [] h other e = absurd h
elsewhere_from rows a place (suc n) used k zero c (d ∷ t) h other e =
    let same : d ≡ c = cc in
    chosen_elsewhere (k == place) rows a c (ne_eqb k place (λ w. other (omega (arith, w)))) (subst (Contains (choices rows a place k)) same h.1)
elsewhere_from rows a place (suc n) used k (suc m) c (d ∷ t) h other e = elsewhere_from rows a place n (d.0 ∷ used) (k + 1) m c t h.2 (λ w. other (omega (arith, w))) e

tuple_is : (rows : List Row) (rule : Rule) (place : ℕ) (a : Row) (t : List Row) → IsFrom rows a place (length rule.heads) [] 0 t → IsTuple rows rule place a t
tuple_is rows rule place a t h = record {
  one_each = length_from rows a place (length rule.heads) [] 0 t h;
  different = different_from rows a place (length rule.heads) [] 0 t h;
  at_place = λ l. at_place_from rows a place (length rule.heads) [] 0 place t h (omega arith) l;
  elsewhere = λ k c other e. elsewhere_from rows a place (length rule.heads) [] 0 k c t h (λ w. other (omega (arith, w))) e;
}

-- and a list that is so
chosen_at : (b : Bool) (rows : List Row) (a c : Row) → (b ≡ true → Some c ≡ Some a) → (b ≡ false → Contains rows c) → Contains (cond b (a ∷ []) rows) c
chosen_at true rows a c here other = let e : a ≡ c = (let same = here refl in cc) in (zero, omega arith, e)
chosen_at false rows a c here other = other refl

still_unused : (used : List ℕ) (i : ℕ) (ids : List ℕ) → All (λ j. i ≢ j) ids → All (λ j. has_number used j ≡ false) ids → All (λ j. has_number (i ∷ used) j ≡ false) ids
still_unused used i ids other unused = λ k d below. or_from _ _ (ne_eqb _ _ (λ e. other k d below (sym e))) (unused k d below)

from_tuple : (rows : List Row) (a : Row) (place n : ℕ) (used : List ℕ) (k : ℕ) (t : List Row) → length t ≡ n → AllPairs (λ i j. i ≢ j) (ids_of t) → All (λ j. has_number used j ≡ false) (ids_of t)
    → ((m : ℕ) → k + m ≡ place → m < n → slice_get t m ≡ Some a) → ((m : ℕ) (c : Row) → k + m ≢ place → slice_get t m ≡ Some c → Contains rows c) → IsFrom rows a place n used k t
from_tuple rows a place zero used k [] len diff unused here other = tt
from_tuple rows a place zero used k (c ∷ t) len diff unused here other = absurd (omega (arith, len))
from_tuple rows a place (suc n) used k [] len diff unused here other = absurd (omega (arith, len))
from_tuple rows a place (suc n) used k (c ∷ t) len diff unused here other = (
  All-head (λ j. has_number used j ≡ false) c.0 (ids_of t) unused,
  chosen_at (k == place) rows a c (λ is. let e : k ≡ place = eqb-true k place is in here zero (omega (arith, e)) (omega arith)) (λ is. other zero c (λ w. eqb-false k place is (omega (arith, w))) refl),
  from_tuple rows a place n (c.0 ∷ used) (k + 1) t (omega (arith, len)) (AllPairs-tail (λ i j. i ≢ j) c.0 (ids_of t) diff)
      (still_unused used c.0 (ids_of t) (AllPairs-head (λ i j. i ≢ j) c.0 (ids_of t) diff) (All-tail (λ j. has_number used j ≡ false) c.0 (ids_of t) unused))
      (λ m e l. here (suc m) (omega (arith, e)) (omega (arith, l))) (λ m d ne e. other (suc m) d (λ w. ne (omega (arith, w))) e),
)

-- the order
abbrev IsBefore : List Row → List Row → Type 0
IsBefore t u = slice_cmp nat_cmp (ids_of t) (ids_of u) ≡ Less

-- the identities of the rows ascend
abbrev Rises : List Row → Type 0
Rises [] = Unit {0}
Rises (c ∷ cs) = All (λ (d : Row). c.0 < d.0) cs × Rises cs

All-ids : (P : ℕ → Type 0) (rows : List Row) → All P (ids_of rows) → All (λ (c : Row). P c.0) rows
All-ids P [] h = All-nil (λ (c : Row). P c.0)
All-ids P (c ∷ cs) h = All-cons (λ (d : Row). P d.0) c cs (All-head P c.0 (ids_of cs) h) (All-ids P cs (All-tail P c.0 (ids_of cs) h))

rises : (rows : List Row) → AllPairs (λ i j. i < j) (ids_of rows) → Rises rows
rises [] h = tt
rises (c ∷ cs) h = (All-ids (λ j. c.0 < j) cs (AllPairs-head (λ i j. i < j) c.0 (ids_of cs) h), rises cs (AllPairs-tail (λ i j. i < j) c.0 (ids_of cs) h))

rises_at : (b : Bool) (rows : List Row) (a : Row) → Rises rows → Rises (cond b (a ∷ []) rows)
rises_at true rows a h = (All-nil (λ (d : Row). a.0 < d.0), tt)
rises_at false rows a h = h

before_heads : (t u : List Row) (c d : Row) → slice_get t 0 ≡ Some c → slice_get u 0 ≡ Some d → c.0 < d.0 → IsBefore t u
before_heads [] u c d e f l = cc
before_heads (x ∷ t) [] c d e f l = cc
before_heads (x ∷ t) (y ∷ u) c d e f l =
    let same : x ≡ c = cc in
    let equal : y ≡ d = cc in
    let less : x.0 < y.0 = omega (arith, l, ap (λ (r : Row). r.0) same, ap (λ (r : Row). r.0) equal) in
    ap (λ o. ordering_then o (slice_cmp nat_cmp (ids_of t) (ids_of u))) (sym (nat_cmp_is x.0 y.0 Less less))

before_tails : (c : Row) (t u : List Row) → IsBefore t u → IsBefore (c ∷ t) (c ∷ u)
before_tails c t u h = ap (λ o. ordering_then o (slice_cmp nat_cmp (ids_of t) (ids_of u))) (sym (nat_cmp_is c.0 c.0 Equal refl)) ∙ h

AllPairs-going_on : (c : Row) (ts : List (List Row)) → AllPairs IsBefore ts → AllPairs IsBefore (map (λ others. c ∷ others) ts)
AllPairs-going_on c [] h = AllPairs-nil IsBefore
AllPairs-going_on c (t ∷ ts) h =
    AllPairs-cons IsBefore (c ∷ t) (map (λ others. c ∷ others) ts)
    (All-map (IsBefore (c ∷ t)) (λ others. c ∷ others) ts (All-weaker (IsBefore t) (λ u. IsBefore (c ∷ t) (c ∷ u)) (λ u. before_tails c t u) ts (AllPairs-head IsBefore t ts h)))
    (AllPairs-going_on c ts (AllPairs-tail IsBefore t ts h))

-- what goes on with a row begins with it
begins_at : (b : Bool) (c : Row) (ts : List (List Row)) → All (λ t. slice_get t 0 ≡ Some c) (elim b [ true ↦ [] | false ↦ map (λ others. c ∷ others) ts ])
begins_at true c ts = All-nil (λ t. slice_get t 0 ≡ Some c)
begins_at false c ts = All-map (λ t. slice_get t 0 ≡ Some c) (λ others. c ∷ others) ts (λ k d below. refl)

ordered_at : (b : Bool) (c : Row) (ts : List (List Row)) → AllPairs IsBefore ts → AllPairs IsBefore (elim b [ true ↦ [] | false ↦ map (λ others. c ∷ others) ts ])
ordered_at true c ts h = AllPairs-nil IsBefore
ordered_at false c ts h = AllPairs-going_on c ts h

ordered_flat : (g : Row → List (List Row)) → ((c : Row) → AllPairs IsBefore (g c)) → ((c : Row) → All (λ t. slice_get t 0 ≡ Some c) (g c)) → (xs : List Row) → Rises xs → AllPairs IsBefore (flat_map g xs)
ordered_flat g each begins [] h = AllPairs-nil IsBefore
ordered_flat g each begins (c ∷ cs) h =
    AllPairs-append IsBefore (g c) (flat_map g cs) (each c) (ordered_flat g each begins cs h.1)
    (All-weaker (λ t. slice_get t 0 ≡ Some c) (λ t. All (IsBefore t) (flat_map g cs))
    (λ t e. All-flat_map (IsBefore t) g cs (All-weaker (λ (d : Row). c.0 < d.0) (λ d. All (IsBefore t) (g d)) (λ d l. All-weaker (λ u. slice_get u 0 ≡ Some d) (IsBefore t) (λ u f. before_heads t u c d e f l) (g d) (begins d)) cs h.0))
    (g c) (begins c))

ordered : (rows : List Row) (a : Row) (place n : ℕ) (used : List ℕ) (k : ℕ) → Rises rows → AllPairs IsBefore (tuples_from rows a place n used k)
ordered rows a place zero used k h = AllPairs-cons IsBefore [] [] (All-nil (IsBefore [])) (AllPairs-nil IsBefore)
ordered rows a place (suc n) used k h =
    ordered_flat (going_on rows a place n used k) (λ c. ordered_at (has_number used c.0) c (tuples_from rows a place n (c.0 ∷ used) (k + 1)) (ordered rows a place n (c.0 ∷ used) (k + 1) h))
    (λ c. begins_at (has_number used c.0) c (tuples_from rows a place n (c.0 ∷ used) (k + 1))) (choices rows a place k) (rises_at (k == place) rows a h)

pub tuples_law : TuplesLaw
tuples_law = record {
  are_tuples = λ rows rule place a. All-weaker (IsFrom rows a place (length rule.heads) [] 0) (IsTuple rows rule place a) (tuple_is rows rule place a) (tuples rows rule place a) (all_from rows a place (length rule.heads) [] 0);
  all_tuples = λ rows rule place a t h. contains_from rows a place (length rule.heads) [] 0 t
      (from_tuple rows a place (length rule.heads) [] 0 t h.one_each h.different (λ k d below. refl) (λ m e l. let same : m ≡ place = omega (arith, e) in subst (λ (i : ℕ). slice_get t i ≡ Some a) (sym same) (h.at_place (omega (arith, l, same)))) (λ m c other e. h.elsewhere m c (λ w. other (omega (arith, w))) e));
  in_order = λ rows rule place a h. ordered rows a place (length rule.heads) [] 0 (rises rows (AllPairs-from_increasing (ids_of rows) h));
}
