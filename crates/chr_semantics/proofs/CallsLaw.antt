-- The calls of a transition make its store and history, and raise the stamps of what it touches.
use Rattle.std.proofs.Common.{◌≡◌, ℕ, ◌+◌, ◌<◌, ◌≤◌, Bool, true, false, cond, not, ◌&&◌, ◌||◌, ◌==◌, List, [], ◌∷◌, ◌++◌, length, drop, Option, Some, None, ap, refl, ◌∙◌, sym, subst, arith, true≢false}
use Rattle.std.specs.Prelude.{filter, find, Result, Ok, Err, ℤ}
use Rattle.std.specs.List.{fold, list_any}
use Rattle.std.proofs.lemmas.Bool.{and_parts, not-true, or_parts}
use Rattle.std.proofs.lemmas.Bool.Decides.{Decides-eqb}
use Rattle.chr_semantics.specs.Calls.{CallsLaw, bind_calls, entries_of, found_calls, found_entry, goal_calls, rise_by_calls, status_calls, status_entry, store_of, top_calls, top_entry}
use Rattle.chr_semantics.specs.Changes.{Entries, Store, entered, rebound, removed, removed_as, woken}
use Rattle.chr_semantics.specs.Footprint.{Ascends, IsSound}
use Rattle.chr_semantics.specs.Guard.{comparison_holds}
use Rattle.chr_semantics.specs.Match.{Row}
use Rattle.chr_semantics.specs.Mgu.{mgu}
use Rattle.chr_semantics.specs.Program.{Atom, Comparison, Goal, Occurrence, Program, Rule, compare, constraint, evaluate, fail, occurrence, tell}
use Rattle.chr_semantics.specs.Search.{Found, History, atom_of, can_fire, fired_before, firing, first_tuple, found_at, found_for, found_with, has_number, ids_of, no_firing, no_occurrence, passes_guard, tuples}
use Rattle.chr_semantics.specs.State.{Element, State, Status, active, done, failed, faulted, goal, known, rows, running}
use Rattle.chr_semantics.specs.Match.{fits}
use Rattle.chr_semantics.specs.Step.{bind_step, compare_step, evaluate_step, search_at, search_step, solve, step, step_at, step_top}
use Rattle.chr_semantics.specs.Subst.{Subst, apply, instances, value_at}
use Rattle.chr_semantics.specs.Touch.{Mark, binds, found_touches, goal_touches, has_open, rule, symbol, touches, touches_at, touches_top}
use Rattle.chr_semantics.specs.Tree.{Tree, int, is_ground_trees}
use Rattle.chr_semantics.specs.Value.{Fault, value}
use Rattle.chr_semantics.proofs.KeptEntries.{goal_history}
use Rattle.chr_semantics.proofs.Lookups.{Ascends-filter, atom_above}

-- removals

abbrev is_other : ℕ → Row → Bool
is_other i r = not (r.0 == i)

-- one, where the constraint has the symbol
abbrev had : ℕ → Option Atom → ℕ
had f None = 0
had f (Some a) = cond (a.sym == f) 1 0

-- the rows of a symbol among some identities
abbrev is_among : ℕ → List ℕ → Row → Bool
is_among f ids r = r.1.sym == f && has_number ids r.0

absent_stays : (i : ℕ) (xs : List Row) → atom_of xs i ≡ None → filter (is_other i) xs ≡ xs
absent_stays i [] e = refl
absent_stays i (x ∷ xs) e = by_test (x.0 == i) (absent_stays i xs) e
  where
    by_test : (b : Bool) → (atom_of xs i ≡ None → filter (is_other i) xs ≡ xs) → cond b (Some x.1) (atom_of xs i) ≡ None → cond (not b) (x ∷ filter (is_other i) xs) (filter (is_other i) xs) ≡ x ∷ xs
    by_test true go e = cc
    by_test false go e = ap (λ (ys : List Row). x ∷ ys) (go e)

removed_rows_as : (m : Store) (i : ℕ) (o : Option Atom) → atom_of m.rows i ≡ o → (removed_as m i o).rows ≡ filter (is_other i) m.rows
removed_rows_as m i None e = sym (absent_stays i m.rows e)
removed_rows_as m i (Some a) e = refl

removed_next : (m : Store) (i : ℕ) (o : Option Atom) → (removed_as m i o).next_id ≡ m.next_id
removed_next m i None = refl
removed_next m i (Some a) = refl

removed_stamps : (m : Store) (i f : ℕ) (o : Option Atom) → (removed_as m i o).stamps f ≡ m.stamps f + had f o
removed_stamps m i f None = omega arith
removed_stamps m i f (Some a) = refl

filtered_twice : (i : ℕ) (is : List ℕ) (xs : List Row) → filter (λ r. not (has_number is r.0)) (filter (is_other i) xs) ≡ filter (λ r. not (has_number (i ∷ is) r.0)) xs
filtered_twice i is [] = refl
filtered_twice i is (x ∷ xs) = by_test (x.0 == i) (has_number is x.0) refl refl (filtered_twice i is xs)
  where
    by_test : (b c : Bool) → (x.0 == i) ≡ b → has_number is x.0 ≡ c → filter (λ r. not (has_number is r.0)) (filter (is_other i) xs) ≡ filter (λ r. not (has_number (i ∷ is) r.0)) xs
        → filter (λ r. not (has_number is r.0)) (cond (not b) (x ∷ filter (is_other i) xs) (filter (is_other i) xs)) ≡ cond (not (b || c)) (x ∷ filter (λ r. not (has_number (i ∷ is) r.0)) xs) (filter (λ r. not (has_number (i ∷ is) r.0)) xs)
    by_test true c e g h = h
    by_test false true e g h = rw g h
    by_test false false e g h = rw g (ap (λ (ys : List Row). x ∷ ys) h)

counted_apart : (f i lo hi : ℕ) (is : List ℕ) (xs : List Row) → Ascends lo xs hi → length (filter (is_among f (i ∷ is)) xs) ≡ had f (atom_of xs i) + length (filter (is_among f is) (filter (is_other i) xs))
counted_apart f i lo hi is [] h = refl
counted_apart f i lo hi is (x ∷ xs) h = by_test (x.0 == i) (x.1.sym == f) (has_number is x.0) refl refl refl (counted_apart f i (x.0 + 1) hi is xs h.1)
  where
    by_test : (b c d : Bool) → (x.0 == i) ≡ b → (x.1.sym == f) ≡ c → has_number is x.0 ≡ d → length (filter (is_among f (i ∷ is)) xs) ≡ had f (atom_of xs i) + length (filter (is_among f is) (filter (is_other i) xs))
        → length (cond (c && (b || d)) (x ∷ filter (is_among f (i ∷ is)) xs) (filter (is_among f (i ∷ is)) xs)) ≡ had f (cond b (Some x.1) (atom_of xs i)) + length (filter (is_among f is) (cond (not b) (x ∷ filter (is_other i) xs) (filter (is_other i) xs)))
    by_test true true d e g k go = let none = atom_above (x.0 + 1) hi i xs (let same : x.0 ≡ i = (Decides-eqb x.0 i).0 e in omega (arith, same)) h.1 in let zero : had f (atom_of xs i) ≡ 0 = ap (had f) none in rw g (omega (arith, go, zero))
    by_test true false d e g k go = let none = atom_above (x.0 + 1) hi i xs (let same : x.0 ≡ i = (Decides-eqb x.0 i).0 e in omega (arith, same)) h.1 in let zero : had f (atom_of xs i) ≡ 0 = ap (had f) none in rw g (omega (arith, go, zero))
    by_test false true true e g k go = rw (g, k) (omega (arith, go))
    by_test false true false e g k go = rw (g, k) go
    by_test false false d e g k go = rw g go

-- several removals
pub record Removed (m n : Store) (ids : List ℕ) : Type 0 where
  pub rows_are : n.rows ≡ filter (λ r. not (has_number ids r.0)) m.rows
  pub next_same : n.next_id ≡ m.next_id
  pub stamps_are : (f : ℕ) → n.stamps f ≡ m.stamps f + length (filter (is_among f ids) m.rows)

none_filtered : (xs : List Row) → filter (λ r. not (has_number [] r.0)) xs ≡ xs
none_filtered [] = refl
none_filtered (x ∷ xs) = ap (λ (ys : List Row). x ∷ ys) (none_filtered xs)

none_counted : (f : ℕ) (xs : List Row) → length (filter (is_among f []) xs) ≡ 0
none_counted f [] = refl
none_counted f (x ∷ xs) = by_test (x.1.sym == f) (none_counted f xs)
  where
    by_test : (b : Bool) → length (filter (is_among f []) xs) ≡ 0 → length (cond (b && false) (x ∷ filter (is_among f []) xs) (filter (is_among f []) xs)) ≡ 0
    by_test true h = h
    by_test false h = h

all_removed : (ids : List ℕ) (m : Store) (hi : ℕ) → Ascends 0 m.rows hi → Removed m (fold removed m ids) ids
all_removed [] m hi h = record { rows_are = sym (none_filtered m.rows); next_same = refl; stamps_are = λ f. omega (arith, none_counted f m.rows) }
all_removed (i ∷ is) m hi h =
    let o = atom_of m.rows i in
    let first : (removed m i).rows ≡ filter (is_other i) m.rows = removed_rows_as m i o refl in
    let r = all_removed is (removed m i) hi (subst (λ (ys : List Row). Ascends 0 ys hi) (sym first) (Ascends-filter (is_other i) 0 hi m.rows h)) in
    record {
      rows_are = r.rows_are ∙ ap (filter (λ (r : Row). not (has_number is r.0))) first ∙ filtered_twice i is m.rows;
      next_same = r.next_same ∙ removed_next m i o;
      stamps_are = λ f. r.stamps_are f ∙ in_all f (removed_stamps m i f o) (ap (λ (ys : List Row). length (filter (is_among f is) ys)) first) (counted_apart f i 0 hi is m.rows h);
    }
  where
    in_all : (f : ℕ) → (removed m i).stamps f ≡ m.stamps f + had f (atom_of m.rows i) → length (filter (is_among f is) (removed m i).rows) ≡ length (filter (is_among f is) (filter (is_other i) m.rows))
        → length (filter (is_among f (i ∷ is)) m.rows) ≡ had f (atom_of m.rows i) + length (filter (is_among f is) (filter (is_other i) m.rows))
        → (removed m i).stamps f + length (filter (is_among f is) (removed m i).rows) ≡ m.stamps f + length (filter (is_among f (i ∷ is)) m.rows)
    in_all f a b c = omega (arith, a, b, c)

-- what is bound anew

any_none : (f : ℕ) (xs : List Row) → list_any (is_among f []) xs ≡ false
any_none f [] = refl
any_none f (x ∷ xs) = by_test (x.1.sym == f) (any_none f xs)
  where
    by_test : (b : Bool) → list_any (is_among f []) xs ≡ false → (b && false || list_any (is_among f []) xs) ≡ false
    by_test true h = h
    by_test false h = h

rebound_rows : (m : Store) (ids : List ℕ) → (rebound m ids).rows ≡ m.rows
rebound_rows m [] = refl
rebound_rows m (i ∷ is) = refl

rebound_next : (m : Store) (ids : List ℕ) → (rebound m ids).next_id ≡ m.next_id
rebound_next m [] = refl
rebound_next m (i ∷ is) = refl

rebound_stamps : (m : Store) (ids : List ℕ) (f : ℕ) → (rebound m ids).stamps f ≡ m.stamps f + cond (list_any (is_among f ids) m.rows) 1 0
rebound_stamps m [] f = omega (arith, ap {B = ℕ} (λ (b : Bool). cond b 1 0) (any_none f m.rows))
rebound_stamps m (i ∷ is) f = refl

-- those that are not ground are those of the woken identities
module _ (loose : Row → Bool) (f : ℕ) where
  above_lacks : (lo hi i : ℕ) (xs : List Row) → i < lo → Ascends lo xs hi → has_number (ids_of (filter loose xs)) i ≡ false
  above_lacks lo hi i [] l h = refl
  above_lacks lo hi i (x ∷ xs) l h =
      let u : lo ≤ x.0 = h.0 in
      by_test (loose x) (x.0) (omega (arith, l, u)) (above_lacks (x.0 + 1) hi i xs (omega (arith, l, u)) h.1)
    where
      apart : (b : Bool) (n : ℕ) → (i == n) ≡ b → i < n → (i == n) ≡ false
      apart true n e below = let same : i ≡ n = (Decides-eqb i n).0 e in absurd (omega (arith, same, below))
      apart false n e below = e

      by_test : (b : Bool) (n : ℕ) → i < n → has_number (ids_of (filter loose xs)) i ≡ false → has_number (ids_of (cond b ((n, x.1) ∷ filter loose xs) (filter loose xs))) i ≡ false
      by_test true n below e = rw (apart (i == n) n refl below) e
      by_test false n below e = e

  first_apart : (b : Bool) (i hi lo : ℕ) (ids : List ℕ) (xs : List Row) → i < lo → Ascends lo xs hi → list_any (is_among f (cond b (i ∷ ids) ids)) xs ≡ list_any (is_among f ids) xs
  first_apart false i hi lo ids xs l h = refl
  first_apart true i hi lo ids [] l h = refl
  first_apart true i hi lo ids (x ∷ xs) l h =
      let u : lo ≤ x.0 = h.0 in
      rw (other (x.0 == i) refl (omega (arith, l, u)), first_apart true i hi (x.0 + 1) ids xs (omega (arith, l, u)) h.1) refl
    where
      other : (c : Bool) → (x.0 == i) ≡ c → i < x.0 → (x.0 == i) ≡ false
      other true e below = let same : x.0 ≡ i = (Decides-eqb x.0 i).0 e in absurd (omega (arith, same, below))
      other false e below = e

  open_are_woken : (lo hi : ℕ) (xs : List Row) → Ascends lo xs hi → list_any (is_among f (ids_of (filter loose xs))) xs ≡ list_any (λ (r : Row). r.1.sym == f && loose r) xs
  open_are_woken lo hi [] h = refl
  open_are_woken lo hi (x ∷ xs) h = by_test (loose x) (above_lacks (x.0 + 1) hi x.0 xs (omega arith) h.1) (first_apart (loose x) x.0 hi (x.0 + 1) (ids_of (filter loose xs)) xs (omega arith) h.1) (open_are_woken (x.0 + 1) hi xs h.1)
    where
      by_test : (b : Bool) → has_number (ids_of (filter loose xs)) x.0 ≡ false
          → list_any (is_among f (cond b (x.0 ∷ ids_of (filter loose xs)) (ids_of (filter loose xs)))) xs ≡ list_any (is_among f (ids_of (filter loose xs))) xs
          → list_any (is_among f (ids_of (filter loose xs))) xs ≡ list_any (λ (r : Row). r.1.sym == f && loose r) xs
          → list_any (is_among f (ids_of (cond b (x ∷ filter loose xs) (filter loose xs)))) (x ∷ xs) ≡ (x.1.sym == f && b || list_any (λ (r : Row). r.1.sym == f && loose r) xs)
      by_test true none first rest = rw ((Decides-eqb x.0 x.0).1 refl) (ap (λ (c : Bool). x.1.sym == f && true || c) (first ∙ rest))
      by_test false none first rest = rw none (ap (λ (c : Bool). x.1.sym == f && false || c) rest)

-- what a test passes is passed

passing_found : {X : Type 0} (test : X → Bool) (xs : List X) (t : X) → find test xs ≡ Some t → test t ≡ true
passing_found test [] t e = cc
passing_found test (x ∷ xs) t e = by_test (test x) refl e (passing_found test xs t)
  where
    by_test : (b : Bool) → test x ≡ b → cond b (Some x) (find test xs) ≡ Some t → (find test xs ≡ Some t → test t ≡ true) → test t ≡ true
    by_test true is e go = let same : x ≡ t = cc in ap test (sym same) ∙ is
    by_test false is e go = go e

none_passes : (test : Row → Bool) (xs : List Row) → list_any test xs ≡ false → length (filter test xs) ≡ 0
none_passes test [] h = refl
none_passes test (x ∷ xs) h = let r = or_parts (test x) (list_any test xs) h in rw r.0 (none_passes test xs r.1)

some_passes : (test : Row → Bool) (xs : List Row) → list_any test xs ≡ true → 0 < length (filter test xs)
some_passes test [] h = absurd (true≢false (sym h))
some_passes test (x ∷ xs) h = by_test (test x) h (some_passes test xs)
  where
    by_test : (b : Bool) → (b || list_any test xs) ≡ true → (list_any test xs ≡ true → 0 < length (filter test xs)) → 0 < length (cond b (x ∷ filter test xs) (filter test xs))
    by_test true h go = omega arith
    by_test false h go = go h

-- a firing that is found is not in the history

Unfired : History → Found → Type 0
Unfired h no_occurrence = Unit {0}
Unfired h no_firing = Unit {0}
Unfired h (firing n r place t) = fired_before h n (ids_of t) ≡ false

unfired_with : (xs : List Row) (h : History) (n : ℕ) (r : Rule) (place : ℕ) (c : Row) (o : Option (List Row)) → first_tuple xs h n r place c ≡ o → Unfired h (found_with n r place o)
unfolding Unfired
unfired_with xs h n r place c None e = tt
unfired_with xs h n r place c (Some t) e = not-true (fired_before h n (ids_of t)) (and_parts (passes_guard r (fits r.heads t)) (not (fired_before h n (ids_of t))) (passing_found (can_fire h n r) (tuples xs r place c) t e)).1

unfired_for : (xs : List Row) (h : History) (n : ℕ) (r : Rule) (place i : ℕ) (a : Option Atom) → Unfired h (found_for xs h n r place i a)
unfolding Unfired
unfired_for xs h n r place i None = tt
unfired_for xs h n r place i (Some a) = unfired_with xs h n r place (i, a) (first_tuple xs h n r place (i, a)) refl

unfired_at : (xs : List Row) (h : History) (i : ℕ) (o : Option Occurrence) → Unfired h (found_at xs h i o)
unfolding Unfired
unfired_at xs h i None = tt
unfired_at xs h i (Some o) = unfired_for xs h o.number o.rule o.place i (atom_of xs i)

unfired : (p : Program) (s : State) (i j : ℕ) (a : Atom) → Unfired s.history (search_at p s i j a)
unfired p s i j a = unfired_at (rows s) s.history i (occurrence p a.sym j)

-- the rows

pub record Makes (n : Store) (t : State) : Type 0 where
  pub rows_are : n.rows ≡ t.store
  pub next_is : n.next_id ≡ t.next_id

module _ (p : Program) (s : State) (m : Store) (h : IsSound s) (same : m.rows ≡ s.store) (next : m.next_id ≡ s.next_id) where
  bound_rows : (t : State) → (bind_calls s t m).rows ≡ s.store
  bound_rows t = stays (binds s t) ∙ same
    where
      stays : (b : Bool) → (cond b (rebound m (woken m s.subst)) m).rows ≡ m.rows
      stays true = rebound_rows m (woken m s.subst)
      stays false = refl

  bound_next : (t : State) → (bind_calls s t m).next_id ≡ s.next_id
  bound_next t = stays (binds s t) ∙ next
    where
      stays : (b : Bool) → (cond b (rebound m (woken m s.subst)) m).next_id ≡ m.next_id
      stays true = rebound_next m (woken m s.subst)
      stays false = refl

  made_bound : (rest : List Element) (o : Option Subst) → Makes (bind_calls s (bind_step s rest o) m) (bind_step s rest o)
  made_bound rest None = record { rows_are = bound_rows (bind_step s rest None); next_is = bound_next (bind_step s rest None) }
  made_bound rest (Some r) = record { rows_are = bound_rows (bind_step s rest (Some r)); next_is = bound_next (bind_step s rest (Some r)) }

  made_evaluated : (rest : List Element) (x : Tree) (v : Result ℤ Fault) → Makes (bind_calls s (evaluate_step s rest x v) m) (evaluate_step s rest x v)
  made_evaluated rest x (Err f) = record { rows_are = bound_rows (evaluate_step s rest x (Err f)); next_is = bound_next (evaluate_step s rest x (Err f)) }
  made_evaluated rest x (Ok z) = made_bound rest (mgu s.subst x (int z))

  made_decided : (rest : List Element) (c : Comparison) (v w : Result ℤ Fault) → Makes m (compare_step s rest c v w)
  made_decided rest c (Err f) w = record { rows_are = same; next_is = next }
  made_decided rest c (Ok x) (Err f) = record { rows_are = same; next_is = next }
  made_decided rest c (Ok x) (Ok y) = either (comparison_holds c x y) (record { rows_are = same; next_is = next }) (record { rows_are = same; next_is = next })
    where
      either : {t u : State} (b : Bool) → Makes m t → Makes m u → Makes m (cond b t u)
      either true k l = k
      either false k l = l

  made_goal : (rest : List Element) (g : Goal) → Makes (goal_calls s rest g m) (solve s rest g)
  made_goal rest (constraint a) = record { rows_are = cc (same, next); next_is = ap (λ (n : ℕ). n + 1) next }
  made_goal rest (tell t u) = made_bound rest (mgu s.subst t u)
  made_goal rest (evaluate x t) = made_evaluated rest x (value (apply s.subst t))
  made_goal rest (compare c t u) = made_decided rest c (value (apply s.subst t)) (value (apply s.subst u))
  made_goal rest fail = record { rows_are = same; next_is = next }

  made_found : (rest : List Element) (i j : ℕ) (a : Atom) (w : Found) → Makes (found_calls w m) (search_step s rest i j a w)
  made_found rest i j a no_occurrence = record { rows_are = same; next_is = next }
  made_found rest i j a no_firing = record { rows_are = same; next_is = next }
  made_found rest i j a (firing n r place t) =
      let ids = drop r.kept (ids_of t) in
      let k = all_removed ids m s.next_id (subst (λ (xs : List Row). Ascends 0 xs s.next_id) (sym same) h.ascends) in
      record { rows_are = k.rows_are ∙ ap (filter (λ (row : Row). not (has_number ids row.0))) same; next_is = k.next_same ∙ next }

  made_top : (es : List Element) → Makes (top_calls p s es m) (step_top p s es)
  made_top [] = record { rows_are = same; next_is = next }
  made_top (goal g ∷ rest) = made_goal rest g
  made_top (known i a ∷ rest) = record { rows_are = same; next_is = next }
  made_top (active i j a ∷ rest) = made_found rest i j a (search_at p s i j a)

  made_at : (w : Status) → Makes (status_calls p s w m) (step_at p s w)
  made_at running = made_top s.stack
  made_at done = record { rows_are = same; next_is = next }
  made_at failed = record { rows_are = same; next_is = next }
  made_at (faulted f) = record { rows_are = same; next_is = next }

-- the stamps

module _ (p : Program) (s : State) (m : Store) (f : ℕ) (h : IsSound s) (same : m.rows ≡ s.store) where
  stamped_bound : (t : State) → (bind_calls s t m).stamps f ≡ m.stamps f + (bind_calls s t (store_of s)).stamps f
  stamped_bound t = by_test (binds s t)
    where
      by_test : (b : Bool) → (cond b (rebound m (woken m s.subst)) m).stamps f ≡ m.stamps f + (cond b (rebound (store_of s) (woken (store_of s) s.subst)) (store_of s)).stamps f
      by_test true =
          let one = rebound_stamps m (woken m s.subst) f in
          let other = rebound_stamps (store_of s) (woken (store_of s) s.subst) f in
          let rows_same = ap {B = ℕ} (λ (xs : List Row). cond (list_any (is_among f (ids_of (filter (λ (r : Row). not (is_ground_trees (instances (value_at s.subst) r.1.args))) xs))) xs) 1 0) same in
          omega (arith, one, other, rows_same)
      by_test false = omega arith

  stamped_goal : (rest : List Element) (g : Goal) → (goal_calls s rest g m).stamps f ≡ m.stamps f + (goal_calls s rest g (store_of s)).stamps f
  stamped_goal rest (constraint a) = omega arith
  stamped_goal rest (tell t u) = stamped_bound (solve s rest (tell t u))
  stamped_goal rest (evaluate x t) = stamped_bound (solve s rest (evaluate x t))
  stamped_goal rest (compare c t u) = omega arith
  stamped_goal rest fail = omega arith

  stamped_found : (w : Found) → (found_calls w m).stamps f ≡ m.stamps f + (found_calls w (store_of s)).stamps f
  stamped_found no_occurrence = omega arith
  stamped_found no_firing = omega arith
  stamped_found (firing n r place t) =
      let ids = drop r.kept (ids_of t) in
      let one = (all_removed ids m s.next_id (subst (λ (xs : List Row). Ascends 0 xs s.next_id) (sym same) h.ascends)).stamps_are f in
      let other = (all_removed ids (store_of s) s.next_id h.ascends).stamps_are f in
      let rows_same = ap (λ (xs : List Row). length (filter (is_among f ids) xs)) same in
      omega (arith, one, other, rows_same)

  stamped_top : (es : List Element) → (top_calls p s es m).stamps f ≡ m.stamps f + (top_calls p s es (store_of s)).stamps f
  stamped_top [] = omega arith
  stamped_top (goal g ∷ rest) = stamped_goal rest g
  stamped_top (known i a ∷ rest) = omega arith
  stamped_top (active i j a ∷ rest) = stamped_found (search_at p s i j a)

  stamped_at : (w : Status) → (status_calls p s w m).stamps f ≡ m.stamps f + (status_calls p s w (store_of s)).stamps f
  stamped_at running = stamped_top s.stack
  stamped_at done = omega arith
  stamped_at failed = omega arith
  stamped_at (faulted e) = omega arith

-- the history

entered_list : (k : Entries) (h : History) (n : ℕ) (ids : List ℕ) → k.list ≡ h → fired_before h n ids ≡ false → (entered k n ids).list ≡ h ++ (n, ids) ∷ []
entered_list k h n ids same new = by_test (fired_before k.list n ids) (ap (λ (l : History). fired_before l n ids) same ∙ new)
  where
    by_test : (b : Bool) → b ≡ false → (cond b k (record { list = k.list ++ (n, ids) ∷ []; stamps = λ r. k.stamps r + cond (n == r) 1 0 })).list ≡ h ++ (n, ids) ∷ []
    by_test true e = absurd (true≢false e)
    by_test false e = ap (λ (l : History). l ++ (n, ids) ∷ []) same

entered_stamps : (k : Entries) (h : History) (n : ℕ) (ids : List ℕ) (r : ℕ) → k.list ≡ h → fired_before h n ids ≡ false → (entered k n ids).stamps r ≡ k.stamps r + cond (n == r) 1 0
entered_stamps k h n ids r same new = by_test (fired_before k.list n ids) (ap (λ (l : History). fired_before l n ids) same ∙ new)
  where
    by_test : (b : Bool) → b ≡ false → (cond b k (record { list = k.list ++ (n, ids) ∷ []; stamps = λ r. k.stamps r + cond (n == r) 1 0 })).stamps r ≡ k.stamps r + cond (n == r) 1 0
    by_test true e = absurd (true≢false e)
    by_test false e = refl

module _ (p : Program) (s : State) (k : Entries) (same : k.list ≡ s.history) where
  entered_found : (rest : List Element) (i j : ℕ) (a : Atom) (w : Found) → Unfired s.history w → (found_entry w k).list ≡ (search_step s rest i j a w).history
  unfolding Unfired
  entered_found rest i j a no_occurrence new = same
  entered_found rest i j a no_firing new = same
  entered_found rest i j a (firing n r place t) new = entered_list k s.history n (ids_of t) same new

  entered_top : (es : List Element) → (top_entry p s es k).list ≡ (step_top p s es).history
  entered_top [] = same
  entered_top (goal g ∷ rest) = same ∙ sym (goal_history s rest g)
  entered_top (known i a ∷ rest) = same
  entered_top (active i j a ∷ rest) = entered_found rest i j a (search_at p s i j a) (unfired p s i j a)

  entered_at : (w : Status) → (status_entry p s w k).list ≡ (step_at p s w).history
  entered_at running = entered_top s.stack
  entered_at done = same
  entered_at failed = same
  entered_at (faulted f) = same

  ruled_found : (r : ℕ) (w : Found) → Unfired s.history w → (found_entry w k).stamps r ≡ k.stamps r + (found_entry w (entries_of s)).stamps r
  unfolding Unfired
  ruled_found r no_occurrence new = omega arith
  ruled_found r no_firing new = omega arith
  ruled_found r (firing n w place t) new =
      let one = entered_stamps k s.history n (ids_of t) r same new in
      let other = entered_stamps (entries_of s) s.history n (ids_of t) r refl new in
      omega (arith, one, other)

  ruled_top : (r : ℕ) (es : List Element) → (top_entry p s es k).stamps r ≡ k.stamps r + (top_entry p s es (entries_of s)).stamps r
  ruled_top r [] = omega arith
  ruled_top r (goal g ∷ rest) = omega arith
  ruled_top r (known i a ∷ rest) = omega arith
  ruled_top r (active i j a ∷ rest) = ruled_found r (search_at p s i j a) (unfired p s i j a)

  ruled_at : (r : ℕ) (w : Status) → (status_entry p s w k).stamps r ≡ k.stamps r + (status_entry p s w (entries_of s)).stamps r
  ruled_at r running = ruled_top r s.stack
  ruled_at r done = omega arith
  ruled_at r failed = omega arith
  ruled_at r (faulted f) = omega arith

-- the rise

-- a mark that is not touched does not rise, and one that is does
abbrev Rises : Bool → ℕ → Type 0
Rises b n = (b ≡ false → n ≡ 0) × (b ≡ true → 0 < n)

rises_once : (b : Bool) (n : ℕ) → n ≡ 0 + cond b 1 0 → Rises b n
rises_once true n e = (λ f. absurd (true≢false f), λ f. omega (arith, e))
rises_once false n e = (λ f. omega (arith, e), λ f. absurd (true≢false (sym f)))

never_rises : Rises false 0
never_rises = (λ e. refl, λ e. absurd (true≢false (sym e)))

module _ (p : Program) (s : State) (h : IsSound s) where
  rises_bound : (t : State) (f : ℕ) → Rises (binds s t && has_open s f) ((bind_calls s t (store_of s)).stamps f)
  rises_bound t f = by_test (binds s t)
    where
      by_test : (b : Bool) → Rises (b && has_open s f) ((cond b (rebound (store_of s) (woken (store_of s) s.subst)) (store_of s)).stamps f)
      by_test true =
          let stamps = rebound_stamps (store_of s) (woken (store_of s) s.subst) f in
          let opened = open_are_woken (λ (r : Row). not (is_ground_trees (instances (value_at s.subst) r.1.args))) f 0 s.next_id s.store h.ascends in
          rises_once (has_open s f) _ (stamps ∙ ap {B = ℕ} (λ (b : Bool). 0 + cond b 1 0) opened)
      by_test false = never_rises

  rises_goal : (rest : List Element) (g : Goal) (f : ℕ) → Rises (goal_touches s rest g (symbol f)) ((goal_calls s rest g (store_of s)).stamps f)
  rises_goal rest (constraint a) f = rises_once (a.sym == f) _ refl
  rises_goal rest (tell t u) f = rises_bound (solve s rest (tell t u)) f
  rises_goal rest (evaluate x t) f = rises_bound (solve s rest (evaluate x t)) f
  rises_goal rest (compare c t u) f = never_rises
  rises_goal rest fail f = never_rises

  rises_found : (w : Found) (f : ℕ) → Rises (found_touches s w (symbol f)) ((found_calls w (store_of s)).stamps f)
  rises_found no_occurrence f = never_rises
  rises_found no_firing f = never_rises
  rises_found (firing n r place t) f =
      let ids = drop r.kept (ids_of t) in
      let stamps = (all_removed ids (store_of s) s.next_id h.ascends).stamps_are f in (
        λ e. omega (arith, stamps, none_passes (is_among f ids) s.store e),
        λ e. omega (arith, stamps, some_passes (is_among f ids) s.store e),
      )

  rises_top : (es : List Element) (f : ℕ) → Rises (touches_top p s es (symbol f)) ((top_calls p s es (store_of s)).stamps f)
  rises_top [] f = never_rises
  rises_top (goal g ∷ rest) f = rises_goal rest g f
  rises_top (known i a ∷ rest) f = never_rises
  rises_top (active i j a ∷ rest) f = rises_found (search_at p s i j a) f

  rises_at : (w : Status) (f : ℕ) → Rises (touches_at p s w (symbol f)) ((status_calls p s w (store_of s)).stamps f)
  rises_at running f = rises_top s.stack f
  rises_at done f = never_rises
  rises_at failed f = never_rises
  rises_at (faulted e) f = never_rises

  fires_goal : (rest : List Element) (g : Goal) (r : ℕ) → goal_touches s rest g (rule r) ≡ false
  fires_goal rest (constraint a) r = refl
  fires_goal rest (tell t u) r = refl
  fires_goal rest (evaluate x t) r = refl
  fires_goal rest (compare c t u) r = refl
  fires_goal rest fail r = refl

  fires_found : (w : Found) (r : ℕ) → Unfired s.history w → Rises (found_touches s w (rule r)) ((found_entry w (entries_of s)).stamps r)
  unfolding Unfired
  fires_found no_occurrence r new = never_rises
  fires_found no_firing r new = never_rises
  fires_found (firing n w place t) r new = rises_once (n == r) _ (entered_stamps (entries_of s) s.history n (ids_of t) r refl new)

  fires_top : (es : List Element) (r : ℕ) → Rises (touches_top p s es (rule r)) ((top_entry p s es (entries_of s)).stamps r)
  fires_top [] r = never_rises
  fires_top (goal g ∷ rest) r = (λ e. refl, λ e. absurd (true≢false (sym e ∙ fires_goal rest g r)))
  fires_top (known i a ∷ rest) r = never_rises
  fires_top (active i j a ∷ rest) r = fires_found (search_at p s i j a) r (unfired p s i j a)

  fires_at : (w : Status) (r : ℕ) → Rises (touches_at p s w (rule r)) ((status_entry p s w (entries_of s)).stamps r)
  fires_at running r = fires_top s.stack r
  fires_at done r = never_rises
  fires_at failed r = never_rises
  fires_at (faulted f) r = never_rises

  rises_by_calls : (x : Mark) → Rises (touches p s x) (rise_by_calls p s x)
  rises_by_calls (symbol f) = rises_at s.status f
  rises_by_calls (rule r) = fires_at s.status r

-- where a constraint enters
next_bound : (s : State) (rest : List Element) (o : Option Subst) → (bind_step s rest o).next_id ≡ s.next_id
next_bound s rest None = refl
next_bound s rest (Some r) = refl

next_evaluated : (s : State) (rest : List Element) (x : Tree) (v : Result ℤ Fault) → (evaluate_step s rest x v).next_id ≡ s.next_id
next_evaluated s rest x (Err f) = refl
next_evaluated s rest x (Ok z) = next_bound s rest (mgu s.subst x (int z))

once_goal : (s : State) (rest : List Element) (g : Goal) (f : ℕ) → s.next_id < (solve s rest g).next_id → goal_touches s rest g (symbol f) ≡ true → (goal_calls s rest g (store_of s)).stamps f ≡ 1
once_goal s rest (constraint a) f up e = ap (λ (b : Bool). 0 + cond b 1 0) e
once_goal s rest (tell t u) f up e = absurd (omega (arith, up, next_bound s rest (mgu s.subst t u)))
once_goal s rest (evaluate x t) f up e = absurd (omega (arith, up, next_evaluated s rest x (value (apply s.subst t))))
once_goal s rest (compare c t u) f up e = absurd (true≢false (sym e))
once_goal s rest fail f up e = absurd (true≢false (sym e))

next_found : (s : State) (rest : List Element) (i j : ℕ) (a : Atom) (w : Found) → (search_step s rest i j a w).next_id ≡ s.next_id
next_found s rest i j a no_occurrence = refl
next_found s rest i j a no_firing = refl
next_found s rest i j a (firing n r place t) = refl

once_top : (p : Program) (s : State) (es : List Element) (f : ℕ) → s.next_id < (step_top p s es).next_id → touches_top p s es (symbol f) ≡ true → (top_calls p s es (store_of s)).stamps f ≡ 1
once_top p s [] f up e = absurd (true≢false (sym e))
once_top p s (goal g ∷ rest) f up e = once_goal s rest g f up e
once_top p s (known i a ∷ rest) f up e = absurd (true≢false (sym e))
once_top p s (active i j a ∷ rest) f up e = absurd (omega (arith, up, next_found s rest i j a (search_at p s i j a)))

once_at : (p : Program) (s : State) (w : Status) (f : ℕ) → s.next_id < (step_at p s w).next_id → touches_at p s w (symbol f) ≡ true → (status_calls p s w (store_of s)).stamps f ≡ 1
once_at p s running f up e = once_top p s s.stack f up e
once_at p s done f up e = absurd (true≢false (sym e))
once_at p s failed f up e = absurd (true≢false (sym e))
once_at p s (faulted x) f up e = absurd (true≢false (sym e))

no_rule_top : (p : Program) (s : State) (h : IsSound s) (es : List Element) (r : ℕ) → s.next_id < (step_top p s es).next_id → touches_top p s es (rule r) ≡ true → ⊥
no_rule_top p s h [] r up e = true≢false (sym e)
no_rule_top p s h (goal g ∷ rest) r up e = true≢false (sym e ∙ fires_goal p s h rest g r)
no_rule_top p s h (known i a ∷ rest) r up e = true≢false (sym e)
no_rule_top p s h (active i j a ∷ rest) r up e = omega (arith, up, next_found s rest i j a (search_at p s i j a))

no_rule_at : (p : Program) (s : State) (h : IsSound s) (w : Status) (r : ℕ) → s.next_id < (step_at p s w).next_id → touches_at p s w (rule r) ≡ true → ⊥
no_rule_at p s h running r up e = no_rule_top p s h s.stack r up e
no_rule_at p s h done r up e = true≢false (sym e)
no_rule_at p s h failed r up e = true≢false (sym e)
no_rule_at p s h (faulted f) r up e = true≢false (sym e)

once_by_calls : (p : Program) (s : State) → IsSound s → (x : Mark) → s.next_id < (step p s).next_id → touches p s x ≡ true → rise_by_calls p s x ≡ 1
once_by_calls p s h (symbol f) up e = once_at p s s.status f up e
once_by_calls p s h (rule r) up e = absurd (no_rule_at p s h s.status r up e)

pub calls_law : CallsLaw
calls_law = record {
  rows = λ p s m h same next. let k = made_at p s m h same next s.status in (k.rows_are, k.next_is);
  stamps = λ p s m h same f. stamped_at p s m f h same s.status;
  entries = λ p s k same. entered_at p s k same s.status;
  entry_stamps = λ p s k same r. ruled_at p s k same r s.status;
  rise = λ p. record {
    stays = λ s h x e. (rises_by_calls p s h x).0 e;
    rises = λ s h x e. (rises_by_calls p s h x).1 e;
    by_one = once_by_calls p;
  };
}
