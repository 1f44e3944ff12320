-- Rows that fit no head of an occurrence's rule change no search at it.
use Rattle.std.proofs.Common.{◌≡◌, ◌<◌, ℕ, zero, suc, Bool, true, false, cond, not, ◌==◌, Option, Some, None, List, [], ◌∷◌, length, ap, refl, ◌∙◌, sym}
use Rattle.std.specs.Prelude.{◌≢◌, All, AllPairs, slice_get, find, filter}
use Rattle.std.specs.List.{list_any}
use Rattle.std.proofs.lemmas.Bool.{eqb-true, ne_eqb, or_left, or_right, true≢false}
use Rattle.std.proofs.lemmas.List.Elements.{All-head, All-tail, All-weaker}
use Rattle.chr_semantics.specs.Program.{Atom, Program, Occurrence, occurrence}
use Rattle.chr_semantics.specs.Match.{Row}
use Rattle.chr_semantics.specs.Search.{History, ids_of, atom_of, tuples, IsTuple, can_fire, first_tuple, found_with, ids_found, first_of, first, RowsLaw}
use Rattle.chr_semantics.proofs.Tuples.{Wants}
use Rattle.chr_semantics.proofs.TuplesLaw.{tuples_law}
use Rattle.chr_semantics.proofs.FirstTuple.{first_is, can_fire_wants, first_tuple_fits}
use Rattle.chr_semantics.proofs.Occurrences.{occurrence_below}
use Rattle.chr_semantics.proofs.Lists.{AllPairs-head, AllPairs-tail}

-- the row of i is kept: it is found among the kept ones
kept_at : (b k : Bool) (x : Row) (xs ys : List Row) (i : ℕ) (a : Atom) → (x.0 == i) ≡ b → (b ≡ true → x.1 ≡ a → k ≡ true) → cond b (Some x.1) (atom_of xs i) ≡ Some a → (atom_of xs i ≡ Some a → atom_of ys i ≡ Some a) → atom_of (cond k (x ∷ ys) ys) i ≡ Some a
kept_at true true x xs ys i a is kept e go = rw is e
kept_at true false x xs ys i a is kept e go = absurd (true≢false (sym (kept refl (let same : x.1 ≡ a = cc in same))))
kept_at false true x xs ys i a is kept e go = rw is (go e)
kept_at false false x xs ys i a is kept e go = go e

row_is : (x : Row) (i : ℕ) (a : Atom) → x.0 ≡ i → x.1 ≡ a → x ≡ (i, a)
row_is x i a e f = ap (λ (k : ℕ). (k, x.1)) e ∙ ap (λ (c : Atom). (i, c)) f

atom_kept : (keep : Row → Bool) (xs : List Row) (i : ℕ) (a : Atom) → keep (i, a) ≡ true → atom_of xs i ≡ Some a → atom_of (filter keep xs) i ≡ Some a
atom_kept keep [] i a k e = e
atom_kept keep (x ∷ xs) i a k e =
    kept_at (x.0 == i) (keep x) x xs (filter keep xs) i a refl (λ is same. ap keep (row_is x i a (eqb-true x.0 i is) same) ∙ k) e (atom_kept keep xs i a k)

-- it is not kept: no row of i is
lacks_at : (k : Bool) (x : Row) (ys : List Row) (i : ℕ) → (k ≡ true → (x.0 == i) ≡ false) → atom_of ys i ≡ None → atom_of (cond k (x ∷ ys) ys) i ≡ None
lacks_at true x ys i other e = rw (other refl) e
lacks_at false x ys i other e = e

lacks_all : (keep : Row → Bool) (xs : List Row) (i : ℕ) → All (λ k. i ≢ k) (ids_of xs) → atom_of (filter keep xs) i ≡ None
lacks_all keep [] i h = refl
lacks_all keep (x ∷ xs) i h =
    lacks_at (keep x) x (filter keep xs) i (λ is. ne_eqb x.0 i (λ e. All-head (λ k. i ≢ k) x.0 (ids_of xs) h (sym e))) (lacks_all keep xs i (All-tail (λ k. i ≢ k) x.0 (ids_of xs) h))

dropped_at : (b k : Bool) (x : Row) (xs ys : List Row) (i : ℕ) (a : Atom) → (x.0 == i) ≡ b → (b ≡ true → x.1 ≡ a → k ≡ false) → cond b (Some x.1) (atom_of xs i) ≡ Some a → (b ≡ true → atom_of ys i ≡ None) → (atom_of xs i ≡ Some a → atom_of ys i ≡ None) → atom_of (cond k (x ∷ ys) ys) i ≡ None
dropped_at true true x xs ys i a is out e none go = absurd (true≢false (out refl (let same : x.1 ≡ a = cc in same)))
dropped_at true false x xs ys i a is out e none go = none refl
dropped_at false true x xs ys i a is out e none go = rw is (go e)
dropped_at false false x xs ys i a is out e none go = go e

atom_dropped : (keep : Row → Bool) (xs : List Row) (i : ℕ) (a : Atom) → AllPairs (λ k l. k ≢ l) (ids_of xs) → keep (i, a) ≡ false → atom_of xs i ≡ Some a → atom_of (filter keep xs) i ≡ None
atom_dropped keep [] i a d k e = cc
atom_dropped keep (x ∷ xs) i a d k e =
    dropped_at (x.0 == i) (keep x) x xs (filter keep xs) i a refl (λ is same. ap keep (row_is x i a (eqb-true x.0 i is) same) ∙ k) e
    (λ is. lacks_all keep xs i (All-weaker (λ l. x.0 ≢ l) (λ l. i ≢ l) (λ l other same. other (eqb-true x.0 i is ∙ same)) (ids_of xs) (AllPairs-head (λ k l. k ≢ l) x.0 (ids_of xs) d)))
    (atom_dropped keep xs i a (AllPairs-tail (λ k l. k ≢ l) x.0 (ids_of xs) d) k)

-- then each tuple has it, and none fires
any_at : (test : Row → Bool) (t : List Row) (k : ℕ) (c : Row) → slice_get t k ≡ Some c → test c ≡ true → list_any test t ≡ true
any_at test [] k c e h = cc
any_at test (x ∷ t) zero c e h = let same : x ≡ c = cc in or_left (test x) (list_any test t) (ap test same ∙ h)
any_at test (x ∷ t) (suc k) c e h = or_right (test x) (list_any test t) (any_at test t k c e h)

find_nothing : (test : List Row → Bool) (ts : List (List Row)) → All (λ t. test t ≡ false) ts → find test ts ≡ None
find_nothing test [] h = refl
find_nothing test (t ∷ ts) h = rw (All-head (λ u. test u ≡ false) t ts h) (find_nothing test ts (All-tail (λ u. test u ≡ false) t ts h))

nothing_found : (keep : Row → Bool) (rows : List Row) (h : History) (i : ℕ) (a : Atom) (o : Occurrence) → Wants keep (can_fire h o.number o.rule) → o.place < length o.rule.heads → keep (i, a) ≡ false → first_tuple rows h o.number o.rule o.place (i, a) ≡ None
nothing_found keep rows h i a o wants below out =
    find_nothing (can_fire h o.number o.rule) (tuples rows o.rule o.place (i, a))
    (All-weaker (IsTuple rows o.rule o.place (i, a)) (λ t. can_fire h o.number o.rule t ≡ false) (λ t is. wants t (any_at (λ r. not (keep r)) t o.place (i, a) (is.at_place below) (ap not out))) (tuples rows o.rule o.place (i, a)) (tuples_law.are_tuples rows o.rule o.place (i, a)))

rows_at : (b : Bool) (p : Program) (rows : List Row) (keep : Row → Bool) (h : History) (i j : ℕ) (a : Atom) (o : Occurrence) → keep (i, a) ≡ b → AllPairs (λ k l. k ≢ l) (ids_of rows) → atom_of rows i ≡ Some a → occurrence p a.sym j ≡ Some o
    → Wants keep (can_fire h o.number o.rule) → first_tuple rows h o.number o.rule o.place (i, a) ≡ first_tuple (filter keep rows) h o.number o.rule o.place (i, a) → first p (filter keep rows) h i j ≡ first p rows h i j
rows_at true p rows keep h i j a o is d lives has wants same =
    first_is p (filter keep rows) h i j a o (atom_kept keep rows i a is lives) has
    ∙ ap (λ (t : Option (List Row)). ids_found (found_with o.number o.rule o.place t)) (sym same)
    ∙ sym (first_is p rows h i j a o lives has)
rows_at false p rows keep h i j a o is d lives has wants same =
    ap (first_of p (filter keep rows) h i j) (atom_dropped keep rows i a d is lives)
    ∙ sym (first_is p rows h i j a o lives has ∙ ap (λ (t : Option (List Row)). ids_found (found_with o.number o.rule o.place t)) (nothing_found keep rows h i a o wants (occurrence_below p a.sym j o has) is))

pub rows_law : RowsLaw
rows_law p rows keep h i j a o d lives has out =
    rows_at (keep (i, a)) p rows keep h i j a o refl d lives has (can_fire_wants keep h o.number o.rule out) (first_tuple_fits keep rows h o.number o.rule o.place (i, a) out)
