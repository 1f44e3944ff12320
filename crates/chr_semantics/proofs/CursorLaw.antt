-- Where a search may go on.
use Rattle.std.proofs.Common.{◌≡◌, ℕ, zero, suc, ◌+◌, ◌<◌, Bool, true, false, cond, not, ◌&&◌, ◌||◌, ◌==◌, nat_lt, ◌⊎◌, inl, inr, List, [], ◌∷◌, length, Option, Some, None, slice_get, ap, refl, ◌∙◌, sym, subst, true≢false, arith}
use Rattle.std.specs.Prelude.{All, AllPairs, Contains, option_map, find, filter, is_some}
use Rattle.std.specs.List.{list_any, filter_map, cons_option}
use Rattle.std.specs.List.Sorted.{IsStrictlyIncreasing}
use Rattle.std.specs.Cmp.Lexicographic.{slice_cmp}
use Rattle.std.specs.Ordering.{nat_cmp, ordering_then}
use Rattle.std.specs.Cmp.{nat_cmp_is}
use Rattle.std.specs.declared.cmp.Ordering.TheVariants.{Less, Equal, Greater}
use Rattle.std.proofs.lemmas.Bool.{and_from, and_parts, eq-eqb, lt-ltb, or_left, or_parts, or_right}
use Rattle.std.proofs.lemmas.Bool.Decides.{nat_tests}
use Rattle.std.proofs.lemmas.List.Elements.{All-head, All-tail, All-weaker, All-contains, All-contains_itself}
use Rattle.chr_semantics.specs.Subst.{Subst}
use Rattle.chr_semantics.specs.Program.{Head, Rule}
use Rattle.chr_semantics.specs.Match.{Row, fit_atom, fits}
use Rattle.chr_semantics.specs.Guard.{all_entailed}
use Rattle.chr_semantics.specs.Search.{History, ids_of, fired_before, passes_guard, can_fire, first_tuple, tuples, IsTuple}
use Rattle.chr_semantics.proofs.TriesLaw.{tried_kept}
use Rattle.chr_semantics.proofs.Lists.{contains_cases, got_below, AllPairs-head, AllPairs-tail}
use Rattle.chr_semantics.proofs.TuplesLaw.{tuples_law}
use Rattle.chr_semantics.specs.Tries.{tried, fits_some}
use Rattle.chr_semantics.specs.Cursor.{lex_lt, is_new, lies_ahead, IsSpent, IsGrown, CursorLaw, admitted, GatedLaw}
use Rattle.chr_semantics.specs.Join.{SameMatch, fit_own_first, Joined, enters, rows_in}
use Rattle.chr_semantics.proofs.MatchOrder.{same_match, same_guard}
use Rattle.chr_semantics.proofs.JoinLaw.{tagged, paired_behind}
use Rattle.std.proofs.Math.Bool.{and-false}

-- the order of lists
order : (x y : ℕ) → (x < y) ⊎ ((x ≡ y) ⊎ (y < x))
order x y = grind arith

lex_at : (x y : ℕ) (xs ys : List ℕ) → (slice_cmp nat_cmp xs ys ≡ Less → lex_lt xs ys ≡ true) → (x < y) ⊎ ((x ≡ y) ⊎ (y < x)) → ordering_then (nat_cmp x y) (slice_cmp nat_cmp xs ys) ≡ Less → (nat_lt x y || (x == y && lex_lt xs ys)) ≡ true
lex_at x y xs ys ih (inl lt) e = or_left (nat_lt x y) (x == y && lex_lt xs ys) (lt-ltb x y lt)
lex_at x y xs ys ih (inr (inl same)) e =
    let rest : slice_cmp nat_cmp xs ys ≡ Less = ap (λ o. ordering_then o (slice_cmp nat_cmp xs ys)) (nat_cmp_is x y Equal same) ∙ e in
    or_right (nat_lt x y) (x == y && lex_lt xs ys) (and_from (x == y) (lex_lt xs ys) (eq-eqb x y same) (ih rest))
lex_at x y xs ys ih (inr (inr gt)) e = let no_less : Greater ≡ Less = ap (λ o. ordering_then o (slice_cmp nat_cmp xs ys)) (nat_cmp_is x y Greater gt) ∙ e in cc

pub lex_less : (xs ys : List ℕ) → slice_cmp nat_cmp xs ys ≡ Less → lex_lt xs ys ≡ true
lex_less [] [] e = cc
lex_less [] (y ∷ ys) e = refl
lex_less (x ∷ xs) [] e = cc
lex_less (x ∷ xs) (y ∷ ys) e = lex_at x y xs ys (lex_less xs ys) (order x y) e

-- the first that passes stands before each other that does
found_first : {X : Type 0} (R : X → X → Type 0) (p : X → Bool) (xs : List X) (x z : X) → find p xs ≡ Some x → AllPairs R xs → Contains xs z → p z ≡ true → (x ≡ z) ⊎ R x z
found_first R p [] x z e r c t = cc
found_first {X = X} R p (y ∷ xs) x z e r c t = first_at (p y) refl e (contains_cases y z xs c) (λ f d. found_first R p xs x z f (AllPairs-tail R y xs r) d t)
  where
    first_at : (b : Bool) → p y ≡ b → cond b (Some y) (find p xs) ≡ Some x → (y ≡ z) ⊎ Contains xs z → (find p xs ≡ Some x → Contains xs z → (x ≡ z) ⊎ R x z) → (x ≡ z) ⊎ R x z
    first_at true is f (inl same) ih = let one : y ≡ x = cc in inl (sym one ∙ same)
    first_at true is f (inr d) ih = let one : y ≡ x = cc in inr (subst (λ (w : X). R w z) one (All-contains (R y) xs z (AllPairs-head R y xs r) d))
    first_at false is f (inl same) ih = absurd (true≢false (sym t ∙ ap p (sym same) ∙ is))
    first_at false is f (inr d) ih = ih f d

-- what has not fired later had not fired before
unfired : (h k : History) (r : ℕ) (rule : Rule) (t : List Row) → IsGrown h k r → can_fire k r rule t ≡ true → can_fire h r rule t ≡ true
unfired h k r rule t g e =
    let parts = and_parts (passes_guard rule (fits rule.heads t)) (not (fired_before k r (ids_of t))) e in
    and_from (passes_guard rule (fits rule.heads t)) (not (fired_before h r (ids_of t))) parts.0 (unfired_at (fired_before h r (ids_of t)) (fired_before k r (ids_of t)) (g (ids_of t)) parts.1)
  where
    unfired_at : (b d : Bool) → (b ≡ true → d ≡ true) → not d ≡ true → not b ≡ true
    unfired_at true true f n = n
    unfired_at true false f n = f refl
    unfired_at false d f n = refl

fired_stops : (k : History) (r : ℕ) (rule : Rule) (t : List Row) → can_fire k r rule t ≡ true → fired_before k r (ids_of t) ≡ true → ⊥
fired_stops k r rule t e f =
    let parts = and_parts (passes_guard rule (fits rule.heads t)) (not (fired_before k r (ids_of t))) e in
    true≢false (sym parts.1 ∙ ap not f)

set_at : (rows : List Row) (h k : History) (r : ℕ) (rule : Rule) (place : ℕ) (a : Row) (l : List ℕ) (from : ℕ) (o : Option (List Row)) → IsStrictlyIncreasing (ids_of rows) → first_tuple rows h r rule place a ≡ o → option_map ids_of o ≡ Some l
    → fired_before k r l ≡ true → IsGrown h k r → IsSpent rows k r rule place a l from
set_at rows h k r rule place a l from None up is e fired g t c can = cc
set_at rows h k r rule place a l from (Some x) up is e fired g t c can =
    let same : ids_of x ≡ l = cc in
    ahead same (found_first (λ u v. slice_cmp nat_cmp (ids_of u) (ids_of v) ≡ Less) (can_fire h r rule) (tuples rows rule place a) x t is (tuples_law.in_order rows rule place a up) c (unfired h k r rule t g can))
  where
    ahead : ids_of x ≡ l → (x ≡ t) ⊎ (slice_cmp nat_cmp (ids_of x) (ids_of t) ≡ Less) → lies_ahead l from (ids_of t) ≡ true
    ahead same (inl itself) = absurd (fired_stops k r rule t can (ap (fired_before k r) (sym (ap ids_of itself) ∙ same) ∙ fired))
    ahead same (inr less) = or_left (lex_lt l (ids_of t)) (list_any (is_new from) (ids_of t)) (ap (λ (i : List ℕ). lex_lt i (ids_of t)) (sym same) ∙ lex_less (ids_of x) (ids_of t) less)

none_new : (p : ℕ → Bool) (t : List Row) (j : ℕ) (c : Row) → list_any p (ids_of t) ≡ false → slice_get t j ≡ Some c → p c.0 ≡ false
none_new p [] j c e f = cc
none_new p (d ∷ t) zero c e f = let same : d ≡ c = cc in ap (λ (x : Row). p x.0) (sym same) ∙ (or_parts (p d.0) (list_any p (ids_of t)) e).0
none_new p (d ∷ t) (suc j) c e f = none_new p t j c (or_parts (p d.0) (list_any p (ids_of t)) e).1 f

kept : (rows others : List Row) (h k : History) (r : ℕ) (rule : Rule) (place : ℕ) (a : Row) (l : List ℕ) (from : ℕ) → IsSpent rows h r rule place a l from → IsGrown h k r
    → ((c : Row) → Contains others c → is_new from c.0 ≡ false → Contains rows c) → IsSpent others k r rule place a l from
kept rows others h k r rule place a l from s g old t c can = kept_at (list_any (is_new from) (ids_of t)) refl
  where
    kept_at : (b : Bool) → list_any (is_new from) (ids_of t) ≡ b → lies_ahead l from (ids_of t) ≡ true
    kept_at true e = or_right (lex_lt l (ids_of t)) (list_any (is_new from) (ids_of t)) e
    kept_at false e =
        let w : IsTuple others rule place a t = All-contains (IsTuple others rule place a) (tuples others rule place a) t (tuples_law.are_tuples others rule place a) c in
        let v : IsTuple rows rule place a t = record { one_each = w.one_each; different = w.different; at_place = w.at_place; elsewhere = λ j d other f. old d (w.elsewhere j d other f) (none_new (is_new from) t j d e f) } in
        s t (tuples_law.all_tuples rows rule place a t v) (unfired h k r rule t g can)

next_at : (b d : Bool) (t : List Row) (x y : Option (List Row)) → (b ≡ true → d ≡ true) → x ≡ y → cond b (Some t) x ≡ cond (d && b) (Some t) y
next_at true true t x y f e = refl
next_at true false t x y f e = absurd (true≢false (sym (f refl)))
next_at false true t x y f e = e
next_at false false t x y f e = e

next_find : (p q : List Row → Bool) (ts : List (List Row)) → All (λ t. p t ≡ true → q t ≡ true) ts → find p ts ≡ find (λ t. q t && p t) ts
next_find p q [] h = refl
next_find p q (t ∷ ts) h = next_at (p t) (q t) t (find p ts) (find (λ u. q u && p u) ts) (All-head (λ u. p u ≡ true → q u ≡ true) t ts h) (next_find p q ts (All-tail (λ u. p u ≡ true → q u ≡ true) t ts h))

pub cursor_law : CursorLaw
cursor_law = record {
  set = λ rows h k r rule place a l from up e fired g. set_at rows h k r rule place a l from (first_tuple rows h r rule place a) up refl e fired g;
  kept = kept;
  next = λ rows h r rule place a l from s. next_find (can_fire h r rule) (λ t. lies_ahead l from (ids_of t)) (tuples rows rule place a)
      (All-weaker (Contains (tuples rows rule place a)) (λ t. can_fire h r rule t ≡ true → lies_ahead l from (ids_of t) ≡ true) (λ t c. s t c) (tuples rows rule place a) (All-contains_itself (tuples rows rule place a)));
}

gated_one : (b d : Bool) (h : History) (r : ℕ) (rule : Rule) (t : List Row) (n : Subst) (x : Option (List Row)) (ps : List Joined) → enters h r rule (t, n) ≡ d → x ≡ option_map rows_in (find (enters h r rule) ps)
    → cond (b && d) (Some t) x ≡ option_map rows_in (find (enters h r rule) (cond b ((t, n) ∷ ps) ps))
gated_one true true h r rule t n x ps is e = rw is refl
gated_one true false h r rule t n x ps is e = rw is e
gated_one false d h r rule t n x ps is e = e

gated_at : (test : List ℕ → Bool) (h : History) (r : ℕ) (rule : Rule) (t : List Row) (o p : Option Subst) (x : Option (List Row)) (ps : List Joined) → SameMatch o p → x ≡ option_map rows_in (find (enters h r rule) (filter (admitted test) ps))
    → cond (test (ids_of t) && (passes_guard rule o && not (fired_before h r (ids_of t)))) (Some t) x ≡ option_map rows_in (find (enters h r rule) (filter (admitted test) (cons_option (tagged t p) ps)))
gated_at test h r rule t None None x ps s e = rw (and-false (test (ids_of t))) e
gated_at test h r rule t None (Some n) x ps s e = absurd s
gated_at test h r rule t (Some m) None x ps s e = absurd s
gated_at test h r rule t (Some m) (Some n) x ps s e =
    gated_one (test (ids_of t)) (all_entailed m rule.guard && not (fired_before h r (ids_of t))) h r rule t n x (filter (admitted test) ps) (ap (λ (b : Bool). b && not (fired_before h r (ids_of t))) (sym (same_guard m n s rule.guard))) e

gated_find : (test : List ℕ → Bool) (h : History) (r : ℕ) (rule : Rule) (place : ℕ) (own : Head) (a : Row) (ts : List (List Row)) → slice_get rule.heads place ≡ Some own → All (λ t. slice_get t place ≡ Some a) ts
    → find (λ t. test (ids_of t) && can_fire h r rule t) ts ≡ option_map rows_in (find (enters h r rule) (filter (admitted test) (filter_map (λ t. tagged t (fit_own_first place rule.heads own a t)) ts)))
gated_find test h r rule place own a [] is at = refl
gated_find test h r rule place own a (t ∷ ts) is at =
    gated_at test h r rule t (fits rule.heads t) (fit_own_first place rule.heads own a t) (find (λ u. test (ids_of u) && can_fire h r rule u) ts) (filter_map (λ u. tagged u (fit_own_first place rule.heads own a u)) ts)
    (same_match rule.heads t place own a is (All-head (λ u. slice_get u place ≡ Some a) t ts at))
    (gated_find test h r rule place own a ts is (All-tail (λ u. slice_get u place ≡ Some a) t ts at))

counted_one : (b d : Bool) (h : History) (r : ℕ) (rule : Rule) (t : List Row) (n : Subst) (k : ℕ) (ps : List Joined) → enters h r rule (t, n) ≡ d → tried (enters h r rule) ps ≡ k → tried (enters h r rule) (cond b ((t, n) ∷ ps) ps) ≡ cond b (cond d 1 (k + 1)) k
counted_one true d h r rule t n k ps is e = cc (is, e)
counted_one false d h r rule t n k ps is e = e

counted_at : (test : List ℕ → Bool) (h : History) (r : ℕ) (rule : Rule) (t : List Row) (o p : Option Subst) (k : ℕ) (ps : List Joined) → SameMatch o p → tried (enters h r rule) (filter (admitted test) ps) ≡ k
    → tried (enters h r rule) (filter (admitted test) (cons_option (tagged t p) ps)) ≡ cond (test (ids_of t) && is_some o) (cond (passes_guard rule o && not (fired_before h r (ids_of t))) 1 (k + 1)) k
counted_at test h r rule t None None k ps s e = rw (and-false (test (ids_of t))) e
counted_at test h r rule t None (Some n) k ps s e = absurd s
counted_at test h r rule t (Some m) None k ps s e = absurd s
counted_at test h r rule t (Some m) (Some n) k ps s e =
    counted_one (test (ids_of t)) (all_entailed m rule.guard && not (fired_before h r (ids_of t))) h r rule t n k (filter (admitted test) ps) (ap (λ (b : Bool). b && not (fired_before h r (ids_of t))) (sym (same_guard m n s rule.guard))) e
    ∙ ap (λ (b : Bool). cond b (cond (all_entailed m rule.guard && not (fired_before h r (ids_of t))) 1 (k + 1)) k) (and_yes (test (ids_of t)))
  where
    and_yes : (b : Bool) → b ≡ (b && true)
    and_yes true = refl
    and_yes false = refl

gated_tried : (test : List ℕ → Bool) (h : History) (r : ℕ) (rule : Rule) (place : ℕ) (own : Head) (a : Row) (ts : List (List Row)) → slice_get rule.heads place ≡ Some own → All (λ t. slice_get t place ≡ Some a) ts
    → tried (enters h r rule) (filter (admitted test) (filter_map (λ t. tagged t (fit_own_first place rule.heads own a t)) ts)) ≡ tried (can_fire h r rule) (filter (λ t. test (ids_of t) && fits_some rule t) ts)
gated_tried test h r rule place own a [] is at = refl
gated_tried test h r rule place own a (t ∷ ts) is at =
    counted_at test h r rule t (fits rule.heads t) (fit_own_first place rule.heads own a t) (tried (can_fire h r rule) (filter (λ u. test (ids_of u) && fits_some rule u) ts)) (filter_map (λ u. tagged u (fit_own_first place rule.heads own a u)) ts)
    (same_match rule.heads t place own a is (All-head (λ u. slice_get u place ≡ Some a) t ts at))
    (gated_tried test h r rule place own a ts is (All-tail (λ u. slice_get u place ≡ Some a) t ts at))
    ∙ sym (tried_kept (can_fire h r rule) t (test (ids_of t) && fits_some rule t) (filter (λ u. test (ids_of u) && fits_some rule u) ts))

all_placed : (rows : List Row) (rule : Rule) (place : ℕ) (a : Row) → place < length rule.heads → All (λ t. slice_get t place ≡ Some a) (tuples rows rule place a)
all_placed rows rule place a inside = All-weaker (IsTuple rows rule place a) (λ t. slice_get t place ≡ Some a) (λ t w. w.at_place inside) (tuples rows rule place a) (tuples_law.are_tuples rows rule place a)

pub gated_law : GatedLaw
gated_law = record {
  found = λ test rows h r rule place own a is.
      gated_find test h r rule place own a (tuples rows rule place a) is (all_placed rows rule place a (got_below rule.heads place own is))
      ∙ ap (λ (ps : List Joined). option_map rows_in (find (enters h r rule) (filter (admitted test) ps))) (paired_behind rows rule place a (fit_atom own.atom a.1 []) (got_below rule.heads place own is));
  tries = λ test rows h r rule place own a is.
      ap (λ (ps : List Joined). tried (enters h r rule) (filter (admitted test) ps)) (sym (paired_behind rows rule place a (fit_atom own.atom a.1 []) (got_below rule.heads place own is)))
      ∙ gated_tried test h r rule place own a (tuples rows rule place a) is (all_placed rows rule place a (got_below rule.heads place own is));
}
