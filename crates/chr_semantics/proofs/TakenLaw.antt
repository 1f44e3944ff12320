-- In a run, a search needs only the entries of the history whose identities all live, for the guest too.
use Rattle.std.proofs.Common.{◌≡◌, ℕ, zero, suc, ◌+◌, ◌<◌, ◌≤◌, Bool, true, false, cond, ◌||◌, ◌==◌, nat_lt, Option, Some, None, List, [], ◌∷◌, ◌++◌, ap, refl, ◌∙◌, sym, map, arith, inl, inr}
use Rattle.std.specs.Prelude.{find, filter}
use Rattle.std.specs.List.{list_all}
use Rattle.std.proofs.lemmas.Bool.{and_parts, and_from, eqb-true, ltb-true, lt-ltb, ne_eqb, or_from}
use Rattle.std.proofs.lemmas.List.Folds.{list_all-append}
use Rattle.std.proofs.lemmas.List.{map-append}
use Rattle.chr_semantics.specs.Subst.{Subst}
use Rattle.chr_semantics.specs.Program.{Atom, Goal, Program, Occurrence, occurrence}
use Rattle.chr_semantics.specs.Match.{Row}
use Rattle.chr_semantics.specs.Search.{History, has_number, ids_of, atom_of, tuples, can_fire, first_tuple, Found, no_occurrence, no_firing, firing, found_with, found_for, found_at, first, live_entries}
use Rattle.chr_semantics.specs.State.{Element, goal, known, active, Status, running, done, failed, faulted, State, resolved_atom, rows, start}
use Rattle.chr_semantics.specs.Step.{solve, search_at, search_step, step_top, step_at, step, after}
use Rattle.chr_semantics.specs.Tasks.{guest}
use Rattle.chr_semantics.specs.Footprint.{Ascends, IsSound, with_guest, TakenLaw}
use Rattle.chr_semantics.proofs.Lookups.{resolved_row, Ascends-ends}
use Rattle.chr_semantics.proofs.DeadEntriesLaw.{AllRows, tuples_all, dead_entries_law}
use Rattle.chr_semantics.proofs.Soundness.{sound_step, sound_start}
use Rattle.chr_semantics.proofs.KeptEntries.{goal_history}
use Rattle.chr_semantics.proofs.Guest.{enters_or_stays_goal}
use Rattle.chr_semantics.proofs.Lists.{list_all-more, list_all-same}

-- the entry names only identities below n, and so do all entries
abbrev names_past : ℕ → ℕ × List ℕ → Bool
names_past n f = list_all (λ i. nat_lt i n) f.1

abbrev is_past : ℕ → History → Bool
is_past n h = list_all (names_past n) h

below_more : (n m i : ℕ) → n ≤ m → nat_lt i n ≡ true → nat_lt i m ≡ true
below_more n m i l h = let k : i < n = ltb-true i n h in lt-ltb i m (omega (arith, k, l))

past_more : (n m : ℕ) (h : History) → n ≤ m → is_past n h ≡ true → is_past m h ≡ true
past_more n m h l = list_all-more (names_past n) (names_past m) h (λ f. list_all-more (λ i. nat_lt i n) (λ i. nat_lt i m) f.1 (λ i. below_more n m i l))

-- the identities of the store are below the next
store_below : (s : Subst) (lo hi : ℕ) (xs : List Row) → Ascends lo xs hi → list_all (λ (r : Row). nat_lt r.0 hi) (map (resolved_row s) xs) ≡ true
store_below s lo hi [] h = refl
store_below s lo hi (x ∷ xs) h =
    let l : x.0 + 1 ≤ hi = Ascends-ends (x.0 + 1) hi xs h.1 in
    and_from (nat_lt x.0 hi) _ (lt-ltb x.0 hi (omega (arith, l))) (store_below s (x.0 + 1) hi xs h.1)

-- so are those of a firing
row_below_at : (b : Bool) (p : ℕ → Bool) (x : Row) (m : Option Atom) (i : ℕ) (a : Atom) → (b ≡ true → x.0 ≡ i) → p x.0 ≡ true → (m ≡ Some a → p i ≡ true) → cond b (Some x.1) m ≡ Some a → p i ≡ true
row_below_at true p x m i a same h go e = ap p (sym (same refl)) ∙ h
row_below_at false p x m i a same h go e = go e

row_below : (p : ℕ → Bool) (xs : List Row) (i : ℕ) (a : Atom) → list_all (λ (r : Row). p r.0) xs ≡ true → atom_of xs i ≡ Some a → p i ≡ true
row_below p [] i a h e = cc
row_below p (x ∷ xs) i a h e = let r = and_parts (p x.0) _ h in row_below_at (x.0 == i) p x (atom_of xs i) i a (eqb-true x.0 i) r.0 (row_below p xs i a r.1) e

found_passes_at : (b : Bool) (test : Row → Bool) (t u : List Row) (m : Option (List Row)) → list_all test t ≡ true → (m ≡ Some u → list_all test u ≡ true) → cond b (Some t) m ≡ Some u → list_all test u ≡ true
found_passes_at true test t u m h go e = let same : t ≡ u = cc in sym (ap (list_all test) same) ∙ h
found_passes_at false test t u m h go e = go e

found_passes : (test : Row → Bool) (f : List Row → Bool) (ts : List (List Row)) (u : List Row) → AllRows test ts → find f ts ≡ Some u → list_all test u ≡ true
found_passes test f [] u h e = cc
found_passes test f (t ∷ ts) u h e = found_passes_at (f t) test t u (find f ts) h.0 (found_passes test f ts u h.1) e

ids_below : (n : ℕ) (t : List Row) → list_all (λ (r : Row). nat_lt r.0 n) t ≡ true → list_all (λ i. nat_lt i n) (ids_of t) ≡ true
ids_below n [] h = refl
ids_below n (x ∷ t) h = let r = and_parts (nat_lt x.0 n) _ h in and_from (nat_lt x.0 n) _ r.0 (ids_below n t r.1)

-- what a search found has identities below n only
abbrev FiresBelow : ℕ → Found → Type 0
FiresBelow n no_occurrence = Unit {0}
FiresBelow n no_firing = Unit {0}
FiresBelow n (firing r rule place t) = list_all (λ i. nat_lt i n) (ids_of t) ≡ true

fires_with : (n : ℕ) (rs : List Row) (h : History) (o : Occurrence) (i : ℕ) (a : Atom) (t : Option (List Row)) → list_all (λ (r : Row). nat_lt r.0 n) rs ≡ true → nat_lt i n ≡ true
    → first_tuple rs h o.number o.rule o.place (i, a) ≡ t → FiresBelow n (found_with o.number o.rule o.place t)
fires_with n rs h o i a None below own e = tt
fires_with n rs h o i a (Some t) below own e =
    ids_below n t (found_passes (λ (r : Row). nat_lt r.0 n) (can_fire h o.number o.rule) (tuples rs o.rule o.place (i, a)) t (tuples_all (λ (r : Row). nat_lt r.0 n) rs (i, a) o.place _ [] 0 own below) e)

fires_for : (n : ℕ) (rs : List Row) (h : History) (o : Occurrence) (i : ℕ) (x : Option Atom) → list_all (λ (r : Row). nat_lt r.0 n) rs ≡ true → atom_of rs i ≡ x → FiresBelow n (found_for rs h o.number o.rule o.place i x)
fires_for n rs h o i None below e = tt
fires_for n rs h o i (Some a) below e = fires_with n rs h o i a (first_tuple rs h o.number o.rule o.place (i, a)) below (row_below (λ k. nat_lt k n) rs i a below e) refl

fires_at : (n : ℕ) (rs : List Row) (h : History) (i : ℕ) (o : Option Occurrence) → list_all (λ (r : Row). nat_lt r.0 n) rs ≡ true → FiresBelow n (found_at rs h i o)
fires_at n rs h i None below = tt
fires_at n rs h i (Some o) below = fires_for n rs h o i (atom_of rs i) below refl

-- each transition keeps the history in the past
past_found : (s : State) (rest : List Element) (i j : ℕ) (a : Atom) (w : Found) → FiresBelow s.next_id w → is_past s.next_id s.history ≡ true → is_past (search_step s rest i j a w).next_id (search_step s rest i j a w).history ≡ true
past_found s rest i j a no_occurrence below h = h
past_found s rest i j a no_firing below h = h
past_found s rest i j a (firing r rule place t) below h =
    list_all-append (names_past s.next_id) s.history ((r, ids_of t) ∷ [])
    ∙ and_from (is_past s.next_id s.history) _ h (and_from (names_past s.next_id (r, ids_of t)) true below refl)

past_goal : (s : State) (rest : List Element) (g : Goal) → is_past s.next_id s.history ≡ true → is_past (solve s rest g).next_id (solve s rest g).history ≡ true
past_goal s rest g h =
    ap (is_past (solve s rest g).next_id) (goal_history s rest g)
    ∙ elim (enters_or_stays_goal s rest g) [
      | inl e ↦ past_more s.next_id (solve s rest g).next_id s.history (omega (arith, e.next)) h
      | inr e ↦ past_more s.next_id (solve s rest g).next_id s.history (omega (arith, e.next)) h
    ]

past_top : (p : Program) (s : State) (es : List Element) → IsSound s → is_past s.next_id s.history ≡ true → is_past (step_top p s es).next_id (step_top p s es).history ≡ true
past_top p s [] sound h = h
past_top p s (goal g ∷ es) sound h = past_goal s es g h
past_top p s (known i a ∷ es) sound h = h
past_top p s (active i j a ∷ es) sound h =
    past_found s es i j a (search_at p s i j a) (fires_at s.next_id (rows s) s.history i (occurrence p a.sym j) (store_below s.subst 0 s.next_id s.store sound.ascends)) h

past_at : (p : Program) (s : State) (w : Status) → IsSound s → is_past s.next_id s.history ≡ true → is_past (step_at p s w).next_id (step_at p s w).history ≡ true
past_at p s running sound h = past_top p s s.stack sound h
past_at p s done sound h = h
past_at p s failed sound h = h
past_at p s (faulted f) sound h = h

past_after : (p : Program) (n : ℕ) (s : State) → IsSound s → is_past s.next_id s.history ≡ true → is_past (after p s n).next_id (after p s n).history ≡ true
past_after p zero s sound h = h
past_after p (suc n) s sound h = past_after p n (step p s) (sound_step p s sound) (past_at p s s.status sound h)

-- a row with a later identity makes no entry of the past live
pub ids_of-append : (xs ys : List Row) → ids_of (xs ++ ys) ≡ ids_of xs ++ ids_of ys
ids_of-append xs ys = map-append (λ (row : Row). row.0) xs ys

has_last : (n i : ℕ) (xs : List Row) (g : Atom) → nat_lt i n ≡ true → has_number (ids_of (xs ++ (n, g) ∷ [])) i ≡ has_number (ids_of xs) i
has_last n i [] g h = or_from (i == n) false (ne_eqb i n (λ e. let l : i < n = ltb-true i n h in absurd (omega (arith, l, e)))) refl
has_last n i (x ∷ xs) g h = ap (λ (b : Bool). i == x.0 || b) (has_last n i xs g h)

filter-same_at : (b c : Bool) (f : ℕ × List ℕ) (h k : History) → b ≡ c → h ≡ k → cond b (f ∷ h) h ≡ cond c (f ∷ k) k
filter-same_at b c f h k e same = cc

filter-same : (past p q : ℕ × List ℕ → Bool) (h : History) → ((f : ℕ × List ℕ) → past f ≡ true → p f ≡ q f) → list_all past h ≡ true → filter p h ≡ filter q h
filter-same past p q [] same k = refl
filter-same past p q (f ∷ h) same k = let r = and_parts (past f) (list_all past h) k in filter-same_at (p f) (q f) f (filter p h) (filter q h) (same f r.0) (filter-same past p q h same r.1)

live_same : (n : ℕ) (rs : List Row) (g : Atom) (h : History) → is_past n h ≡ true → live_entries (rs ++ (n, g) ∷ []) h ≡ live_entries rs h
live_same n rs g h k =
    filter-same (names_past n) (λ (f : ℕ × List ℕ). list_all (has_number (ids_of (rs ++ (n, g) ∷ []))) f.1) (λ (f : ℕ × List ℕ). list_all (has_number (ids_of rs)) f.1) h
    (λ f. list_all-same (λ i. nat_lt i n) (has_number (ids_of (rs ++ (n, g) ∷ []))) (has_number (ids_of rs)) f.1 (λ i. has_last n i rs g)) k

taken_guest : (p : Program) (s : State) (g : Option Atom) (i j : ℕ) → is_past s.next_id s.history ≡ true → first p (with_guest s g) (live_entries (rows s) s.history) i j ≡ first p (with_guest s g) s.history i j
taken_guest p s None i j h = dead_entries_law p (rows s) s.history i j
taken_guest p s (Some a) i j h =
    let b = resolved_atom s.subst a in
    ap (λ (k : History). first p (rows s ++ (s.next_id, b) ∷ []) k i j) (sym (live_same s.next_id (rows s) b s.history h))
    ∙ dead_entries_law p (rows s ++ (s.next_id, b) ∷ []) s.history i j

taken_at : (b : Bool) (p : Program) (s : State) (i j : ℕ) → is_past s.next_id s.history ≡ true
    → first p (cond b (with_guest s (guest s)) (rows s)) (live_entries (rows s) s.history) i j ≡ first p (cond b (with_guest s (guest s)) (rows s)) s.history i j
taken_at true p s i j h = taken_guest p s (guest s) i j h
taken_at false p s i j h = dead_entries_law p (rows s) s.history i j

pub taken_law : TakenLaw
taken_law p r n t =
    let s = after p (start r) n in
    taken_at (t.0 == s.next_id) p s t.0 t.1 (past_after p n (start r) (sound_start r) refl)
