-- A search over rows is a search over those rows that can be in what it finds.
use Rattle.std.proofs.Common.{Bool, List, None, Option, Some, [], ap, cond, false, map, not, refl, suc, sym, true, zero, ℕ, ◌+◌, ◌==◌, ◌∙◌, ◌∷◌, ◌≡◌}
use Rattle.std.proofs.lemmas.Bool.{or_right}
use Rattle.std.proofs.lemmas.List.Folds.{find-append}
use Rattle.std.specs.List.{list_any}
use Rattle.std.specs.Option.{option_or}
use Rattle.std.specs.Prelude.{filter, find, flat_map, option_map}
use Rattle.chr_semantics.specs.Match.{Row}
use Rattle.chr_semantics.specs.Search.{has_number, tuples_from}

-- a test that fails for each list with an element that is not kept
abbrev pub Wants : (Row → Bool) → (List Row → Bool) → Type 0
Wants keep test = (t : List Row) → list_any (λ r. not (keep r)) t ≡ true → test t ≡ false

find-map_at : (b : Bool) (test : List Row → Bool) (c : Row) (t : List Row) (m : Option (List Row)) → cond b (Some (c ∷ t)) (option_map (λ r. c ∷ r) m) ≡ option_map (λ r. c ∷ r) (cond b (Some t) m)
find-map_at true test c t m = refl
find-map_at false test c t m = refl

find-map : (test : List Row → Bool) (c : Row) (ts : List (List Row)) → find test (map (λ r. c ∷ r) ts) ≡ option_map (λ r. c ∷ r) (find (λ r. test (c ∷ r)) ts)
find-map test c [] = refl
find-map test c (t ∷ ts) = rw (find-map test c ts) (find-map_at (test (c ∷ t)) test c t (find (λ r. test (c ∷ r)) ts))

Wants-tail : (keep : Row → Bool) (test : List Row → Bool) (c : Row) → Wants keep test → Wants keep (λ r. test (c ∷ r))
Wants-tail keep test c h t k = h (c ∷ t) (or_right (not (keep c)) (list_any (λ r. not (keep r)) t) k)

find_none : (test : List Row → Bool) (ts : List (List Row)) → ((t : List Row) → test t ≡ false) → find test ts ≡ None
find_none test [] h = refl
find_none test (t ∷ ts) h = rw (h t) (find_none test ts h)

Wants-head : (keep : Row → Bool) (test : List Row → Bool) (c : Row) → Wants keep test → keep c ≡ false → (t : List Row) → test (c ∷ t) ≡ false
Wants-head keep test c h k t = h (c ∷ t) (rw k refl)

pieces_at : (b : Bool) (test : List Row → Bool) (x : Row) (g h : List (List Row)) (m n : Option (List Row)) (hs : List (List Row)) → find test g ≡ find test h → (b ≡ false → find test g ≡ None) → n ≡ find test hs → m ≡ n → option_or (find test g) m ≡ cond b (option_or (find test h) n) n
pieces_at true test x g h m n hs one none e f = rw (one, f) refl
pieces_at false test x g h m n hs one none e f = rw (none refl) f

filtered_at : (b : Bool) (test : List Row → Bool) (x : Row) (h : Row → List (List Row)) (xs : List Row) → find test (flat_map h (cond b (x ∷ xs) xs)) ≡ cond b (option_or (find test (h x)) (find test (flat_map h xs))) (find test (flat_map h xs))
filtered_at true test x h xs = find-append test (h x) (flat_map h xs)
filtered_at false test x h xs = refl

pieces : (keep : Row → Bool) (test : List Row → Bool) (g h : Row → List (List Row)) → ((c : Row) → find test (g c) ≡ find test (h c)) → ((c : Row) → keep c ≡ false → find test (g c) ≡ None) → (xs : List Row) → find test (flat_map g xs) ≡ find test (flat_map h (filter keep xs))
pieces keep test g h one none [] = refl
pieces keep test g h one none (x ∷ xs) =
    find-append test (g x) (flat_map g xs)
    ∙ pieces_at (keep x) test x (g x) (h x) (find test (flat_map g xs)) (find test (flat_map h (filter keep xs))) (flat_map h (filter keep xs)) (one x) (none x) refl (pieces keep test g h one none xs)
    ∙ sym (filtered_at (keep x) test x h (filter keep xs))

one_at : (b : Bool) (test : List Row → Bool) (c : Row) (ts us : List (List Row)) → find (λ r. test (c ∷ r)) ts ≡ find (λ r. test (c ∷ r)) us → find test (elim b [ true ↦ [] | false ↦ map (λ r. c ∷ r) ts ]) ≡ find test (elim b [ true ↦ [] | false ↦ map (λ r. c ∷ r) us ])
one_at true test c ts us e = refl
one_at false test c ts us e = find-map test c ts ∙ ap (option_map (λ (r : List Row). c ∷ r)) e ∙ sym (find-map test c us)

none_at : (b : Bool) (test : List Row → Bool) (c : Row) (ts : List (List Row)) → ((t : List Row) → test (c ∷ t) ≡ false) → find test (elim b [ true ↦ [] | false ↦ map (λ r. c ∷ r) ts ]) ≡ None
none_at true test c ts h = refl
none_at false test c ts h = find-map test c ts ∙ ap (option_map (λ (r : List Row). c ∷ r)) (find_none (λ r. test (c ∷ r)) ts h)

place_at : (b : Bool) (keep : Row → Bool) (test : List Row → Bool) (g h : Row → List (List Row)) (a : Row) (rows : List Row) → ((c : Row) → find test (g c) ≡ find test (h c)) → ((c : Row) → keep c ≡ false → find test (g c) ≡ None)
    → find test (flat_map g (cond b (a ∷ []) rows)) ≡ find test (flat_map h (cond b (a ∷ []) (filter keep rows)))
place_at true keep test g h a rows one none = find-append test (g a) [] ∙ rw (one a) (sym (find-append test (h a) []))
place_at false keep test g h a rows one none = pieces keep test g h one none rows

-- a test that fails with rows that are not kept finds the same among the kept ones
pub find_kept : (keep : Row → Bool) (test : List Row → Bool) → Wants keep test → (rows : List Row) (a : Row) (place n : ℕ) (used : List ℕ) (k : ℕ) → find test (tuples_from rows a place n used k) ≡ find test (tuples_from (filter keep rows) a place n used k)
find_kept keep test h rows a place zero used k = refl
find_kept keep test h rows a place (suc n) used k =
    place_at (k == place) keep test
    (λ c. elim (has_number used c.0) [ true ↦ [] | false ↦ map (λ r. c ∷ r) (tuples_from rows a place n (c.0 ∷ used) (k + 1)) ])
    (λ c. elim (has_number used c.0) [ true ↦ [] | false ↦ map (λ r. c ∷ r) (tuples_from (filter keep rows) a place n (c.0 ∷ used) (k + 1)) ])
    a rows
    (λ c. one_at (has_number used c.0) test c _ _ (find_kept keep (λ r. test (c ∷ r)) (Wants-tail keep test c h) rows a place n (c.0 ∷ used) (k + 1)))
    (λ c out. none_at (has_number used c.0) test c _ (Wants-head keep test c h out))
