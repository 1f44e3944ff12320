-- The join with the own head first meets exactly the tuples that fit.
use Rattle.std.proofs.Common.{◌≡◌, ℕ, zero, suc, ◌+◌, ◌<◌, ◌≤◌, Bool, true, false, cond, not, ◌&&◌, ◌||◌, ◌==◌, ◌⊎◌, inl, inr, List, [], ◌∷◌, ◌++◌, map, length, Option, Some, None, option_and_then, slice_get, ap, refl, ◌∙◌, sym, true≢false, arith}
use Rattle.std.specs.Prelude.{All, option_map, find, flat_map, filter}
use Rattle.std.specs.List.{filter_map, cons_option}
use Rattle.std.proofs.lemmas.Bool.{or_right, eqb-true, eqb-false}
use Rattle.std.proofs.lemmas.Bool.Decides.{Decides-eqb}
use Rattle.std.proofs.lemmas.List.Elements.{All-head, All-tail, All-weaker}
use Rattle.chr_semantics.specs.Subst.{Subst}
use Rattle.chr_semantics.specs.Program.{Head, Rule}
use Rattle.chr_semantics.specs.Match.{Row, fit_atom, fits}
use Rattle.chr_semantics.specs.Guard.{all_entailed}
use Rattle.chr_semantics.specs.Search.{History, has_number, ids_of, fired_before, passes_guard, can_fire, first_tuple, tuples, tuples_from, IsTuple}
use Rattle.chr_semantics.proofs.Lists.{got_below}
use Rattle.chr_semantics.proofs.TuplesLaw.{tuples_law}
use Rattle.chr_semantics.specs.Join.{SameMatch, fit_others, fit_own_first, Joined, after_row, branch, joined, joined_by, after_own, own_joined, enters, rows_in, Keeps, JoinLaw}
use Rattle.chr_semantics.proofs.MatchOrder.{same_match, same_guard}
use Rattle.chr_semantics.proofs.SearchedLists.{filter_map-flat_map, filter_map-map, filter_map-none, filter_map-same, filter_map-option_map, flat_map-same, flat_map-none, flat_map-filter}

abbrev pub tagged : List Row → Option Subst → Option Joined
tagged t None = None
tagged t (Some n) = Some (t, n)

abbrev pub pair_from : ℕ → ℕ → List Head → Subst → List Row → Option Joined
pair_from place k heads m t = tagged t (fit_others place k heads t m)

tagged-behind : (c : Row) (t : List Row) (o : Option Subst) → tagged (c ∷ t) o ≡ option_map (after_row c) (tagged t o)
tagged-behind c t None = refl
tagged-behind c t (Some n) = refl

-- the lists after the row c, where it was not used
abbrev pub longer : Bool → Row → List (List Row) → List (List Row)
longer b c ts = elim b [ true ↦ [] | false ↦ map (λ others. c ∷ others) ts ]

-- where the own row was used before its place, there is no tuple
blocked_row : (b : Bool) (c : Row) (ts : List (List Row)) → ts ≡ [] → longer b c ts ≡ []
blocked_row true c ts e = refl
blocked_row false c ts e = ap (map (λ others. c ∷ others)) e

blocked_own : (b : Bool) (c : Row) (ts : List (List Row)) → b ≡ true → longer b c ts ++ [] ≡ []
blocked_own true c ts e = refl
blocked_own false c ts e = absurd (true≢false (sym e))

blocked_at : (b : Bool) (rows : List Row) (a : Row) (place n : ℕ) (used : List ℕ) (k : ℕ) → (k == place) ≡ b → has_number used a.0 ≡ true → (b ≡ false → (c : Row) → tuples_from rows a place n (c.0 ∷ used) (k + 1) ≡ [])
    → flat_map (λ (c : Row). longer (has_number used c.0) c (tuples_from rows a place n (c.0 ∷ used) (k + 1))) (cond b (a ∷ []) rows) ≡ []
blocked_at true rows a place n used k here is none = blocked_own (has_number used a.0) a (tuples_from rows a place n (a.0 ∷ used) (k + 1)) is
blocked_at false rows a place n used k here is none = flat_map-none _ rows (λ c. blocked_row (has_number used c.0) c (tuples_from rows a place n (c.0 ∷ used) (k + 1)) (none refl c))

pub blocked : (rows : List Row) (a : Row) (place n : ℕ) (used : List ℕ) (k : ℕ) → has_number used a.0 ≡ true → k ≤ place → place < k + n → tuples_from rows a place n used k ≡ []
blocked rows a place zero used k is low high = absurd (omega (arith, low, high))
blocked rows a place (suc n) used k is low high =
    blocked_at (k == place) rows a place n used k refl is
    (λ other c. blocked rows a place n (c.0 ∷ used) (k + 1) (or_right (a.0 == c.0) (has_number used a.0) is) (below k place low (eqb-false k place other)) (omega (arith, high)))
  where
    below : (k place : ℕ) → k ≤ place → (k ≡ place → ⊥) → k + 1 ≤ place
    below k place low other = grind (arith, low, other)

-- the lists after the row c, paired
paired_row : (b d : Bool) (e : Option Subst) (place k : ℕ) (h : Head) (hs : List Head) (m : Subst) (c : Row) (ts : List (List Row)) (further : Subst → List Joined) → (k == place) ≡ false → fit_atom h.atom c.1 m ≡ e
    → (b ≡ false → d ≡ true → ts ≡ []) → ((n : Subst) → filter_map (pair_from place (k + 1) hs n) ts ≡ further n)
    → filter_map (pair_from place k (h ∷ hs) m) (longer b c ts) ≡ branch further c (d || b) e
paired_row true true e place k h hs m c ts further other is none ih = refl
paired_row true false e place k h hs m c ts further other is none ih = refl
paired_row false true e place k h hs m c ts further other is none ih = rw (none refl refl) refl
paired_row false false None place k h hs m c ts further other is none ih =
    filter_map-map (pair_from place k (h ∷ hs) m) (λ others. c ∷ others) ts ∙ filter_map-none (λ t. pair_from place k (h ∷ hs) m (c ∷ t)) ts (λ t. rw (other, is) refl)
paired_row false false (Some n) place k h hs m c ts further other is none ih =
    filter_map-map (pair_from place k (h ∷ hs) m) (λ others. c ∷ others) ts
    ∙ filter_map-same (λ t. pair_from place k (h ∷ hs) m (c ∷ t)) (λ t. option_map (after_row c) (pair_from place (k + 1) hs n t)) ts (λ t. rw (other, is) (tagged-behind c t (fit_others place (k + 1) hs t n)))
    ∙ filter_map-option_map (after_row c) (pair_from place (k + 1) hs n) ts
    ∙ ap (map (after_row c)) (ih n)

append_none : {X : Type 0} (xs : List X) → xs ++ [] ≡ xs
append_none [] = refl
append_none (x ∷ xs) = ap (λ l. x ∷ l) (append_none xs)

-- the lists after the own row
paired_own : (b : Bool) (place k : ℕ) (h : Head) (hs : List Head) (m : Subst) (a : Row) (ts : List (List Row)) (further : List Joined) → (k == place) ≡ true → b ≡ false
    → filter_map (pair_from place (k + 1) hs m) ts ≡ further
    → filter_map (pair_from place k (h ∷ hs) m) (longer b a ts) ++ [] ≡ map (after_row a) further
paired_own true place k h hs m a ts further here is ih = absurd (true≢false is)
paired_own false place k h hs m a ts further here is ih =
    append_none (filter_map (pair_from place k (h ∷ hs) m) (map (λ others. a ∷ others) ts))
    ∙ filter_map-map (pair_from place k (h ∷ hs) m) (λ others. a ∷ others) ts
    ∙ filter_map-same (λ t. pair_from place k (h ∷ hs) m (a ∷ t)) (λ t. option_map (after_row a) (pair_from place (k + 1) hs m t)) ts (λ t. rw here (tagged-behind a t (fit_others place (k + 1) hs t m)))
    ∙ filter_map-option_map (after_row a) (pair_from place (k + 1) hs m) ts
    ∙ ap (map (after_row a)) ih

-- the own row was used exactly after its place
pub record IsAt (a : Row) (place n : ℕ) (used : List ℕ) (k : ℕ) : Type 0 where
  pub unused : k ≤ place → has_number used a.0 ≡ false
  pub taken : place < k → has_number used a.0 ≡ true
  pub inside : k ≤ place → place < k + n

at_own : (a : Row) (place n : ℕ) (used : List ℕ) (k : ℕ) → (k == place) ≡ true → IsAt a place (suc n) used k → IsAt a place n (a.0 ∷ used) (k + 1)
at_own a place n used k here s =
    let same = eqb-true k place here in
    record {
      unused = λ low. absurd (omega (arith, same, low));
      taken = λ low. ap (λ (b : Bool). b || has_number used a.0) ((Decides-eqb a.0 a.0).1 refl);
      inside = λ low. absurd (omega (arith, same, low));
    }

or_false : (b c : Bool) → b ≡ false → c ≡ false → (b || c) ≡ false
or_false true c e f = absurd (true≢false e)
or_false false c e f = f

neq_turned : (x y : ℕ) (b : Bool) → (x == y) ≡ false → (y == x) ≡ b → b ≡ false
neq_turned x y true e f = let same : y ≡ x = (Decides-eqb y x).0 f in absurd (true≢false (sym ((Decides-eqb x y).1 (sym same)) ∙ e))
neq_turned x y false e f = refl

at_other : (a c : Row) (place n : ℕ) (used : List ℕ) (k : ℕ) → (k == place) ≡ false → (c.0 == a.0) ≡ false → IsAt a place (suc n) used k → IsAt a place n (c.0 ∷ used) (k + 1)
at_other a c place n used k here differs s =
    let other = eqb-false k place here in
    record {
      unused = λ low. or_false (a.0 == c.0) (has_number used a.0) (neq_turned c.0 a.0 (a.0 == c.0) differs refl) (s.unused (omega (arith, low)));
      taken = λ low. or_right (a.0 == c.0) (has_number used a.0) (s.taken (grind (arith, low, other)));
      inside = λ low. let i : place < k + suc n = s.inside (omega (arith, low)) in omega (arith, i);
    }

-- an own row that stands in front of its place leaves nothing
own_early : (rows : List Row) (a c : Row) (place n : ℕ) (used : List ℕ) (k : ℕ) → (k == place) ≡ false → IsAt a place (suc n) used k → has_number used c.0 ≡ false → (c.0 == a.0) ≡ true → tuples_from rows a place n (c.0 ∷ used) (k + 1) ≡ []
own_early rows a c place n used k here s free same =
    let is : c.0 ≡ a.0 = (Decides-eqb c.0 a.0).0 same in
    let other = eqb-false k place here in
    own_early_at (order k place other) is
  where
    order : (k place : ℕ) → (k ≡ place → ⊥) → (k < place) ⊎ (place < k)
    order k place apart = grind (arith, apart)

    own_early_at : (k < place) ⊎ (place < k) → c.0 ≡ a.0 → tuples_from rows a place n (c.0 ∷ used) (k + 1) ≡ []
    own_early_at (inl low) is =
        let i : place < k + suc n = s.inside (omega (arith, low)) in
        blocked rows a place n (c.0 ∷ used) (k + 1) (ap (λ (b : Bool). b || has_number used a.0) ((Decides-eqb a.0 c.0).1 (sym is))) (omega (arith, low)) (omega (arith, i))
    own_early_at (inr high) is = absurd (true≢false (sym (s.taken high) ∙ ap (has_number used) (sym is) ∙ free))

paired_stops : (b : Bool) (place k : ℕ) (h : Head) (hs : List Head) (m : Subst) (c : Row) (ts : List (List Row)) → (b ≡ false → ts ≡ []) → filter_map (pair_from place k (h ∷ hs) m) (longer b c ts) ≡ []
paired_stops true place k h hs m c ts none = refl
paired_stops false place k h hs m c ts none = rw (none refl) refl

paired_other : (d : Bool) (rows : List Row) (a : Row) (place : ℕ) (h : Head) (hs : List Head) (used : List ℕ) (k : ℕ) (m : Subst) (c : Row) → (k == place) ≡ false → IsAt a place (suc (length hs)) used k → (c.0 == a.0) ≡ d
    → ((n : Subst) → IsAt a place (length hs) (c.0 ∷ used) (k + 1) → filter_map (pair_from place (k + 1) hs n) (tuples_from rows a place (length hs) (c.0 ∷ used) (k + 1)) ≡ joined rows a place hs (c.0 ∷ used) (k + 1) n)
    → filter_map (pair_from place k (h ∷ hs) m) (longer (has_number used c.0) c (tuples_from rows a place (length hs) (c.0 ∷ used) (k + 1)))
    ≡ branch (λ n. joined rows a place hs (c.0 ∷ used) (k + 1) n) c (d || has_number used c.0) (fit_atom h.atom c.1 m)
paired_other true rows a place h hs used k m c here s is ih =
    paired_stops (has_number used c.0) place k h hs m c (tuples_from rows a place (length hs) (c.0 ∷ used) (k + 1)) (λ u. own_early rows a c place (length hs) used k here s u is)
paired_other false rows a place h hs used k m c here s is ih =
    paired_row (has_number used c.0) false (fit_atom h.atom c.1 m) place k h hs m c (tuples_from rows a place (length hs) (c.0 ∷ used) (k + 1)) (λ n. joined rows a place hs (c.0 ∷ used) (k + 1) n) here refl
    (λ u t. absurd (true≢false (sym t))) (λ n. ih n (at_other a c place (length hs) used k here is s))

paired_at : (b : Bool) (rows : List Row) (a : Row) (place : ℕ) (h : Head) (hs : List Head) (used : List ℕ) (k : ℕ) (m : Subst) → (k == place) ≡ b → IsAt a place (suc (length hs)) used k
    → ((c : Row) (n : Subst) → IsAt a place (length hs) (c.0 ∷ used) (k + 1) → filter_map (pair_from place (k + 1) hs n) (tuples_from rows a place (length hs) (c.0 ∷ used) (k + 1)) ≡ joined rows a place hs (c.0 ∷ used) (k + 1) n)
    → flat_map (λ (c : Row). filter_map (pair_from place k (h ∷ hs) m) (longer (has_number used c.0) c (tuples_from rows a place (length hs) (c.0 ∷ used) (k + 1)))) (cond b (a ∷ []) rows)
    ≡ cond b (map (after_row a) (joined rows a place hs (a.0 ∷ used) (k + 1) m)) (flat_map (λ (c : Row). branch (λ n. joined rows a place hs (c.0 ∷ used) (k + 1) n) c (has_number (a.0 ∷ used) c.0) (fit_atom h.atom c.1 m)) rows)
paired_at true rows a place h hs used k m here s ih =
    let same = eqb-true k place here in
    paired_own (has_number used a.0) place k h hs m a (tuples_from rows a place (length hs) (a.0 ∷ used) (k + 1)) (joined rows a place hs (a.0 ∷ used) (k + 1) m) here (s.unused (omega (arith, same)))
    (ih a m (at_own a place (length hs) used k here s))
paired_at false rows a place h hs used k m here s ih = flat_map-same _ _ rows (λ c. paired_other (c.0 == a.0) rows a place h hs used k m c here s refl (ih c))

pub paired : (rows : List Row) (a : Row) (place : ℕ) (heads : List Head) (used : List ℕ) (k : ℕ) (m : Subst) → IsAt a place (length heads) used k
    → filter_map (pair_from place k heads m) (tuples_from rows a place (length heads) used k) ≡ joined rows a place heads used k m
paired rows a place [] used k m s = refl
paired rows a place (h ∷ hs) used k m s =
    filter_map-flat_map (pair_from place k (h ∷ hs) m) (λ (c : Row). longer (has_number used c.0) c (tuples_from rows a place (length hs) (c.0 ∷ used) (k + 1))) (cond (k == place) (a ∷ []) rows)
    ∙ paired_at (k == place) rows a place h hs used k m refl s (λ c n t. paired rows a place hs (c.0 ∷ used) (k + 1) n t)

-- a search among paired lists
find_entering : (b : Bool) (t : List Row) (m : Subst) (x : Option (List Row)) (y : Option Joined) → x ≡ option_map rows_in y → cond b (Some t) x ≡ option_map rows_in (cond b (Some (t, m)) y)
find_entering true t m x y e = refl
find_entering false t m x y e = e

find_at : (h : History) (r : ℕ) (rule : Rule) (t : List Row) (o p : Option Subst) (x : Option (List Row)) (ps : List Joined) → SameMatch o p → x ≡ option_map rows_in (find (enters h r rule) ps)
    → cond (passes_guard rule o && not (fired_before h r (ids_of t))) (Some t) x ≡ option_map rows_in (find (enters h r rule) (cons_option (tagged t p) ps))
find_at h r rule t None None x ps s e = e
find_at h r rule t None (Some n) x ps s e = absurd s
find_at h r rule t (Some m) None x ps s e = absurd s
find_at h r rule t (Some m) (Some n) x ps s e =
    ap (λ (b : Bool). cond (b && not (fired_before h r (ids_of t))) (Some t) x) (same_guard m n s rule.guard)
    ∙ find_entering (all_entailed n rule.guard && not (fired_before h r (ids_of t))) t n x (find (enters h r rule) ps) e

find_paired : (h : History) (r : ℕ) (rule : Rule) (place : ℕ) (own : Head) (a : Row) (ts : List (List Row)) → slice_get rule.heads place ≡ Some own → All (λ t. slice_get t place ≡ Some a) ts
    → find (can_fire h r rule) ts ≡ option_map rows_in (find (enters h r rule) (filter_map (λ t. tagged t (fit_own_first place rule.heads own a t)) ts))
find_paired h r rule place own a [] is at = refl
find_paired h r rule place own a (t ∷ ts) is at =
    find_at h r rule t (fits rule.heads t) (fit_own_first place rule.heads own a t) (find (can_fire h r rule) ts) (filter_map (λ u. tagged u (fit_own_first place rule.heads own a u)) ts)
    (same_match rule.heads t place own a is (All-head (λ u. slice_get u place ≡ Some a) t ts at))
    (find_paired h r rule place own a ts is (All-tail (λ u. slice_get u place ≡ Some a) t ts at))

pub paired_behind : (rows : List Row) (rule : Rule) (place : ℕ) (a : Row) (o : Option Subst) → place < length rule.heads
    → filter_map (λ t. tagged t (option_and_then (fit_others place 0 rule.heads t) o)) (tuples rows rule place a) ≡ after_own (joined rows a place rule.heads [] 0) o
paired_behind rows rule place a None inside = filter_map-none (λ t. tagged t None) (tuples rows rule place a) (λ t. refl)
paired_behind rows rule place a (Some m) inside = paired rows a place rule.heads [] 0 m (record { unused = λ low. refl; taken = λ low. absurd (omega (arith, low)); inside = λ low. omega (arith, inside) })

pub all_rows : (rows : List Row) (h : History) (r : ℕ) (rule : Rule) (place : ℕ) (own : Head) (a : Row) → slice_get rule.heads place ≡ Some own
    → first_tuple rows h r rule place a ≡ option_map rows_in (find (enters h r rule) (own_joined rows rule place own a))
all_rows rows h r rule place own a is =
    let inside : place < length rule.heads = got_below rule.heads place own is in
    find_paired h r rule place own a (tuples rows rule place a) is
    (All-weaker (IsTuple rows rule place a) (λ t. slice_get t place ≡ Some a) (λ t w. w.at_place inside) (tuples rows rule place a) (tuples_law.are_tuples rows rule place a))
    ∙ ap (λ (ps : List Joined). option_map rows_in (find (enters h r rule) ps)) (paired_behind rows rule place a (fit_atom own.atom a.1 []) inside)

-- rows that are left out
pub branch_none : (further : Subst → List Joined) (c : Row) (b : Bool) (e : Option Subst) → e ≡ None → branch further c b e ≡ []
branch_none further c true e h = refl
branch_none further c false None h = refl
branch_none further c false (Some n) h = cc

pub branch_same : (f g : Subst → List Joined) (c : Row) (b : Bool) (e : Option Subst) → ((n : Subst) → f n ≡ g n) → branch f c b e ≡ branch g c b e
branch_same f g c true e h = refl
branch_same f g c false None h = refl
branch_same f g c false (Some n) h = ap (map (after_row c)) (h n)

pub joined_kept : (keep : Head → Subst → Row → Bool) (rows : List Row) (a : Row) (place : ℕ) (heads : List Head) (used : List ℕ) (k : ℕ) (m : Subst) → Keeps keep → joined_by keep rows a place heads used k m ≡ joined rows a place heads used k m
joined_kept keep rows a place [] used k m s = refl
joined_kept keep rows a place (h ∷ hs) used k m s =
    let one : map (after_row a) (joined_by keep rows a place hs (a.0 ∷ used) (k + 1) m) ≡ map (after_row a) (joined rows a place hs (a.0 ∷ used) (k + 1) m) = ap (map (after_row a)) (joined_kept keep rows a place hs (a.0 ∷ used) (k + 1) m s) in
    let all : flat_map (λ (c : Row). branch (λ n. joined_by keep rows a place hs (c.0 ∷ used) (k + 1) n) c (has_number (a.0 ∷ used) c.0) (fit_atom h.atom c.1 m)) (filter (keep h m) rows)
    ≡ flat_map (λ (c : Row). branch (λ n. joined rows a place hs (c.0 ∷ used) (k + 1) n) c (has_number (a.0 ∷ used) c.0) (fit_atom h.atom c.1 m)) rows =
    flat_map-filter _ (keep h m) rows (λ c no. branch_none _ c (has_number (a.0 ∷ used) c.0) (fit_atom h.atom c.1 m) (s h m c no))
    ∙ flat_map-same _ _ rows (λ c. branch_same _ _ c (has_number (a.0 ∷ used) c.0) (fit_atom h.atom c.1 m) (λ n. joined_kept keep rows a place hs (c.0 ∷ used) (k + 1) n s)) in
    cc (one, all)

behind_kept : (f g : Subst → List Joined) (o : Option Subst) → ((m : Subst) → f m ≡ g m) → after_own f o ≡ after_own g o
behind_kept f g None h = refl
behind_kept f g (Some m) h = h m

pub join_law : JoinLaw
join_law = record {
  all_rows = all_rows;
  kept_rows = λ keep rows h r rule place own a s is. all_rows rows h r rule place own a is
      ∙ ap (λ (ps : List Joined). option_map rows_in (find (enters h r rule) ps)) (sym (behind_kept _ _ (fit_atom own.atom a.1 []) (λ m. joined_kept keep rows a place rule.heads [] 0 m s)));
}
