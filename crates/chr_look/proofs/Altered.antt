-- What a transition does to the identities, the store and the history.
use Rattle.std.proofs.Common.{◌≡◌, ◌∙◌, ◌+◌, ◌++◌, ◌∷◌, ◌==◌, ◌⊎◌, [], inl, inr, Bool, Err, List, None, Ok, Option, Result, Some, ap, cond, drop, false, map, not, refl, sym, true, ℕ, ℤ}
use Rattle.std.proofs.lemmas.Bool.{and_from, eq-eqb}
use Rattle.std.proofs.lemmas.List.Folds.{list_all-map}
use Rattle.std.specs.List.{list_all}
use Rattle.std.specs.Prelude.{filter, find, is_some, slice_get}
use Rattle.chr_semantics.specs.Guard.{comparison_holds}
use Rattle.chr_semantics.specs.Match.{Row}
use Rattle.chr_semantics.specs.Mgu.{mgu}
use Rattle.chr_semantics.specs.Program.{Atom, Comparison, Goal, Occurrence, Program, Rule, compare, constraint, evaluate, fail, occurrence, tell}
use Rattle.chr_semantics.specs.Search.{Found, atom_of, can_fire, first_tuple, found_at, found_for, found_with, firing, has_number, ids_of, no_firing, no_occurrence, tuples}
use Rattle.chr_semantics.specs.State.{Element, State, Status, active, done, failed, faulted, goal, known, resolved_atom, rows, running}
use Rattle.chr_semantics.specs.Step.{bind_step, compare_step, evaluate_step, search_at, search_step, solve, step, step_at, step_top}
use Rattle.chr_semantics.specs.Subst.{Subst, apply}
use Rattle.chr_semantics.specs.Tasks.{lives}
use Rattle.chr_semantics.specs.Tree.{Tree, int}
use Rattle.chr_semantics.specs.Value.{Fault, value}
use Rattle.chr_semantics.proofs.DeadEntriesLaw.{AllRows, tuples_all}
use Rattle.chr_semantics.proofs.Lists.{list_all-more}
use Rattle.chr_semantics.proofs.OccurrenceRule.{occurrence_rule}

pub record Stays (s t : State) : Type 0 where
  pub counted : t.next_id ≡ s.next_id
  pub stored : t.store ≡ s.store
  pub entered : t.history ≡ s.history

pub record Brings (s t : State) : Type 0 where
  pub brought : Atom
  pub counted : t.next_id ≡ s.next_id + 1
  pub stored : t.store ≡ s.store ++ (s.next_id, brought) ∷ []
  pub entered : t.history ≡ s.history

pub record Fires (p : Program) (s t : State) : Type 0 where
  pub number : ℕ
  pub rule : Rule
  pub ids : List ℕ
  pub is_its_rule : slice_get p number ≡ Some rule
  pub lived : list_all (lives s) ids ≡ true
  pub counted : t.next_id ≡ s.next_id
  pub stored : t.store ≡ filter (λ (row : Row). not (has_number (drop rule.kept ids) row.0)) s.store
  pub entered : t.history ≡ s.history ++ (number, ids) ∷ []

abbrev pub Alters : Program → State → State → Type 0
Alters p s t = Stays s t ⊎ (Brings s t ⊎ Fires p s t)

still : (p : Program) (s t : State) → t.next_id ≡ s.next_id → t.store ≡ s.store → t.history ≡ s.history → Alters p s t
still p s t e f g = inl (record { counted = e; stored = f; entered = g })

told : (p : Program) (s : State) (rest : List Element) (m : Option Subst) → Alters p s (bind_step s rest m)
told p s rest None = still p s _ refl refl refl
told p s rest (Some r) = still p s _ refl refl refl

evaluated : (p : Program) (s : State) (rest : List Element) (x : Tree) (v : Result ℤ Fault) → Alters p s (evaluate_step s rest x v)
evaluated p s rest x (Err f) = still p s _ refl refl refl
evaluated p s rest x (Ok z) = told p s rest (mgu s.subst x (int z))

either : (p : Program) (s t u : State) (b : Bool) → Alters p s t → Alters p s u → Alters p s (cond b t u)
either p s t u true h k = h
either p s t u false h k = k

compared : (p : Program) (s : State) (rest : List Element) (c : Comparison) (v w : Result ℤ Fault) → Alters p s (compare_step s rest c v w)
compared p s rest c (Err f) w = still p s _ refl refl refl
compared p s rest c (Ok x) (Err f) = still p s _ refl refl refl
compared p s rest c (Ok x) (Ok y) = either p s _ _ (comparison_holds c x y) (still p s _ refl refl refl) (still p s _ refl refl refl)

solved : (p : Program) (s : State) (rest : List Element) (g : Goal) → Alters p s (solve s rest g)
solved p s rest (constraint a) = inr (inl (record { brought = a; counted = refl; stored = refl; entered = refl }))
solved p s rest (tell t u) = told p s rest (mgu s.subst t u)
solved p s rest (evaluate x t) = evaluated p s rest x (value (apply s.subst t))
solved p s rest (compare c t u) = compared p s rest c (value (apply s.subst t)) (value (apply s.subst u))
solved p s rest fail = still p s _ refl refl refl

-- ---- all that fires lives

abbrev is_there : List Row → Row → Bool
is_there xs r = is_some (atom_of xs r.0)

there_later : (b : Bool) (x : Atom) (m : Option Atom) → is_some m ≡ true → is_some (cond b (Some x) m) ≡ true
there_later true x m h = refl
there_later false x m h = h

there_first : (b : Bool) (x : Atom) (m : Option Atom) → b ≡ true → is_some (cond b (Some x) m) ≡ true
there_first b x m h = rw h refl

all_there : (xs : List Row) → list_all (is_there xs) xs ≡ true
all_there [] = refl
all_there (x ∷ xs) = and_from (is_there (x ∷ xs) x) _ (there_first (x.0 == x.0) x.1 (atom_of xs x.0) (eq-eqb x.0 x.0 refl)) (list_all-more (is_there xs) (is_there (x ∷ xs)) xs (λ y h. there_later (x.0 == y.0) x.1 (atom_of xs y.0) h) (all_there xs))

there_resolved : (m : Subst) (xs : List Row) (i : ℕ) → is_some (atom_of (map (λ (r : Row). (r.0, resolved_atom m r.1)) xs) i) ≡ is_some (atom_of xs i)
there_resolved m [] i = refl
there_resolved m (x ∷ xs) i = by (x.0 == i) (there_resolved m xs i)
  where
    by : (b : Bool) → is_some (atom_of (map (λ (r : Row). (r.0, resolved_atom m r.1)) xs) i) ≡ is_some (atom_of xs i)
        → is_some (cond b (Some (resolved_atom m x.1)) (atom_of (map (λ (r : Row). (r.0, resolved_atom m r.1)) xs) i)) ≡ is_some (cond b (Some x.1) (atom_of xs i))
    by true h = refl
    by false h = h

found_in : (test : Row → Bool) (passes : List Row → Bool) (ts : List (List Row)) (t : List Row) → AllRows test ts → find passes ts ≡ Some t → list_all test t ≡ true
found_in test passes [] t h e = cc
found_in test passes (u ∷ us) t h e = by (passes u) (found_in test passes us t h.1) e
  where
    by : (b : Bool) → (find passes us ≡ Some t → list_all test t ≡ true) → cond b (Some u) (find passes us) ≡ Some t → list_all test t ≡ true
    by true go k = let same : u ≡ t = cc in ap (list_all test) (sym same) ∙ h.0
    by false go k = go k

ids_live : (s : State) (t : List Row) → list_all (is_there (rows s)) t ≡ true → list_all (lives s) (ids_of t) ≡ true
ids_live s t h = list_all-map (lives s) (λ (r : Row). r.0) t ∙ list_all-more (is_there (rows s)) (λ (r : Row). lives s r.0) t (λ r k. sym (there_resolved s.subst s.store r.0) ∙ k) h

record IsFiring (p : Program) (s : State) (n : ℕ) (r : Rule) (t : List Row) : Type 0 where
  is_its_rule : slice_get p n ≡ Some r
  lived : list_all (lives s) (ids_of t) ≡ true

some_there : (s : State) (i : ℕ) (a : Atom) → atom_of (rows s) i ≡ Some a → is_there (rows s) (i, a) ≡ true
some_there s i a e = ap is_some e

fires : (p : Program) (s : State) (f i j : ℕ) (n : ℕ) (r : Rule) (place : ℕ) (t : List Row) (o : Option Occurrence) → occurrence p f j ≡ o → found_at (rows s) s.history i o ≡ firing n r place t → IsFiring p s n r t
fires p s f i j n r place t None is e = cc
fires p s f i j n r place t (Some o) is e = by (atom_of (rows s) i) refl e
  where
    with_tuple : (a : Atom) (u : Option (List Row)) → atom_of (rows s) i ≡ Some a → first_tuple (rows s) s.history o.number o.rule o.place (i, a) ≡ u → found_with o.number o.rule o.place u ≡ firing n r place t → IsFiring p s n r t
    with_tuple a None there k e = cc
    with_tuple a (Some u) there k e =
        let number : o.number ≡ n = cc in
        let rule : o.rule ≡ r = cc in
        let tuple : u ≡ t = cc in
        record {
          is_its_rule = ap (slice_get p) (sym number) ∙ occurrence_rule p f j o is ∙ ap Some rule;
          lived = ap (λ (v : List Row). list_all (lives s) (ids_of v)) (sym tuple) ∙ ids_live s u (found_in (is_there (rows s)) (can_fire s.history o.number o.rule) (tuples (rows s) o.rule o.place (i, a)) u (tuples_all (is_there (rows s)) (rows s) (i, a) o.place _ [] 0 (some_there s i a there) (all_there (rows s))) k);
        }

    by : (x : Option Atom) → atom_of (rows s) i ≡ x → found_for (rows s) s.history o.number o.rule o.place i x ≡ firing n r place t → IsFiring p s n r t
    by None there k = cc
    by (Some a) there k = with_tuple a _ there refl k

searched : (p : Program) (s : State) (rest : List Element) (i j : ℕ) (a : Atom) (w : Found) → search_at p s i j a ≡ w → Alters p s (search_step s rest i j a w)
searched p s rest i j a no_occurrence e = still p s _ refl refl refl
searched p s rest i j a no_firing e = still p s _ refl refl refl
searched p s rest i j a (firing n r place t) e =
    let is = fires p s a.sym i j n r place t (occurrence p a.sym j) refl e in
    inr (inr (record { number = n; rule = r; ids = ids_of t; is_its_rule = is.is_its_rule; lived = is.lived; counted = refl; stored = refl; entered = refl }))

on_top : (p : Program) (s : State) (es : List Element) → Alters p s (step_top p s es)
on_top p s [] = still p s s refl refl refl
on_top p s (goal g ∷ rest) = solved p s rest g
on_top p s (known i a ∷ rest) = still p s _ refl refl refl
on_top p s (active i j a ∷ rest) = searched p s rest i j a (search_at p s i j a) refl

by_status : (p : Program) (s : State) (w : Status) → Alters p s (step_at p s w)
by_status p s running = on_top p s s.stack
by_status p s done = still p s s refl refl refl
by_status p s failed = still p s s refl refl refl
by_status p s (faulted f) = still p s s refl refl refl

pub alters : (p : Program) (s : State) → Alters p s (step p s)
alters p s = by_status p s s.status
