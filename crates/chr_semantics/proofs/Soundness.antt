-- Each transition keeps the state sound.
use Rattle.std.proofs.Common.{Bool, Err, List, None, Ok, Option, Result, Some, [], arith, cond, drop, false, map, nat_lt, not, refl, suc, sym, true, true≢false, zero, ℕ, ℤ, ◌++◌, ◌+◌, ◌<◌, ◌==◌, ◌∷◌, ◌≡◌, ◌≤◌}
use Rattle.std.proofs.lemmas.Bool.Decides.{Decides-eqb}
use Rattle.std.specs.Prelude.{filter}
use Rattle.chr_semantics.specs.Footprint.{Agrees, AgreesAt, Ascends, IsGoalOf, IsSound}
use Rattle.chr_semantics.specs.Guard.{comparison_holds}
use Rattle.chr_semantics.specs.Match.{Row}
use Rattle.chr_semantics.specs.Mgu.{mgu}
use Rattle.chr_semantics.specs.Program.{Query, Atom, Comparison, Goal, Program, compare, constraint, evaluate, fail, tell}
use Rattle.chr_semantics.specs.Search.{Found, atom_of, firing, has_number, ids_of, no_firing, no_occurrence}
use Rattle.chr_semantics.specs.State.{Element, State, Status, active, done, failed, faulted, goal, known, running, start}
use Rattle.chr_semantics.specs.Step.{after, compare_step, evaluate_step, search_at, search_step, solve, step, step_at, step_top, bind_step, woken_elements}
use Rattle.chr_semantics.specs.Subst.{Subst, apply}
use Rattle.chr_semantics.specs.Tree.{Tree, int}
use Rattle.chr_semantics.specs.Value.{Fault, value}
use Rattle.chr_semantics.proofs.Lookups.{Ascends-filter, Ascends-push, atom_before, atom_of_part, atom_last, Ascends-ends}
use Rattle.chr_semantics.proofs.SolvedLaw.{nothing_solved}
use Rattle.chr_semantics.proofs.UnifierEqual.{mgu_makes_equal}

-- the stack against the store
abbrev TurnsInto : List Row → ℕ → List Row → ℕ → Type 0
TurnsInto xs n ys m = (n ≤ m) × ((i : ℕ) (b : Atom) → i < n → atom_of ys i ≡ Some b → atom_of xs i ≡ Some b)

agrees_at : (xs ys : List Row) (n m : ℕ) (e : Element) → TurnsInto xs n ys m → AgreesAt xs n e → AgreesAt ys m e
agrees_at xs ys n m (goal g) h k = tt
agrees_at xs ys n m (known i a) h k = let l : i < n = k.0 in let u : n ≤ m = h.0 in (omega (arith, l, u), λ b e. k.1 b (h.1 i b l e))
agrees_at xs ys n m (active i j a) h k = let l : i < n = k.0 in let u : n ≤ m = h.0 in (omega (arith, l, u), λ b e. k.1 b (h.1 i b l e))

agrees_into : (xs ys : List Row) (n m : ℕ) (es : List Element) → TurnsInto xs n ys m → Agrees xs n es → Agrees ys m es
agrees_into xs ys n m [] h k = tt
agrees_into xs ys n m (e ∷ es) h k = (agrees_at xs ys n m e h k.0, agrees_into xs ys n m es h k.1)

agrees_append : (xs : List Row) (n : ℕ) (es fs : List Element) → Agrees xs n es → Agrees xs n fs → Agrees xs n (es ++ fs)
agrees_append xs n [] fs h k = k
agrees_append xs n (e ∷ es) fs h k = (h.0, agrees_append xs n es fs h.1 k)

agrees_goals : (xs : List Row) (n : ℕ) (f : Goal → Goal) (gs : List Goal) → Agrees xs n (map (λ g. goal (f g)) gs)
agrees_goals xs n f [] = tt
agrees_goals xs n f (g ∷ gs) = (tt, agrees_goals xs n f gs)

-- the rows of a store stand in it
abbrev AllIn : List Row → ℕ → List Row → Type 0
AllIn xs n [] = Unit {0}
AllIn xs n (r ∷ rs) = IsGoalOf xs n r.0 r.1 × AllIn xs n rs

skip_at : (b : Bool) (x : Row) (i : ℕ) (m : Option Atom) (a : Atom) → (x.0 == i) ≡ b → x.0 < i → cond b (Some x.1) m ≡ Some a → m ≡ Some a
skip_at true x i m a is h e = let same : x.0 ≡ i = (Decides-eqb x.0 i).0 is in absurd (omega (arith, same, h))
skip_at false x i m a is h e = e

all_in_more : (x : Row) (lo n : ℕ) (xs rs : List Row) → x.0 < lo → Ascends lo rs n → AllIn xs n rs → AllIn (x ∷ xs) n rs
all_in_more x lo n xs [] h k l = tt
all_in_more x lo n xs (r ∷ rs) h k l =
    let u : lo ≤ r.0 = k.0 in
    ((l.0.0, λ b e. l.0.1 b (skip_at (x.0 == r.0) x r.0 (atom_of xs r.0) b refl (omega (arith, h, u)) e)), all_in_more x (r.0 + 1) n xs rs (omega (arith, h, u)) k.1 l.1)

here_at : (b : Bool) (x : Row) (m : Option Atom) (a : Atom) → b ≡ true → cond b (Some x.1) m ≡ Some a → a ≡ x.1
here_at true x m a is e = cc
here_at false x m a is e = absurd (true≢false (sym is))

all_in : (lo n : ℕ) (xs : List Row) → Ascends lo xs n → AllIn xs n xs
all_in lo n [] h = tt
all_in lo n (x ∷ xs) h =
    let l : x.0 + 1 ≤ n = Ascends-ends (x.0 + 1) n xs h.1 in
    ((omega (arith, l), λ b e. here_at (x.0 == x.0) x (atom_of xs x.0) b ((Decides-eqb x.0 x.0).1 refl) e), all_in_more x (x.0 + 1) n xs xs (omega arith) h.1 (all_in (x.0 + 1) n xs h.1))

woken_at : (b : Bool) (store : List Row) (n : ℕ) (r : Row) (rs : List Row) → IsGoalOf store n r.0 r.1 → Agrees store n (map (λ (x : Row). known x.0 x.1) rs) → Agrees store n (map (λ (x : Row). known x.0 x.1) (cond b (r ∷ rs) rs))
woken_at true store n r rs h k = (h, k)
woken_at false store n r rs h k = k

agrees_woken : (store : List Row) (n : ℕ) (test : Row → Bool) (rs : List Row) → AllIn store n rs → Agrees store n (map (λ (x : Row). known x.0 x.1) (filter test rs))
agrees_woken store n test [] h = tt
agrees_woken store n test (r ∷ rs) h = woken_at (test r) store n r (filter test rs) h.0 (agrees_woken store n test rs h.1)

-- the rest of the stack agrees
abbrev RestAgrees : State → List Element → Type 0
RestAgrees s rest = Agrees s.store s.next_id rest

wakes : (s : State) (rest : List Element) → IsSound s → RestAgrees s rest → RestAgrees s (woken_elements s ++ rest)
wakes s rest h k = agrees_append s.store s.next_id (woken_elements s) rest (agrees_woken s.store s.next_id _ s.store (all_in 0 s.next_id s.store h.ascends)) k

sound_told : (s : State) (rest : List Element) (t u : Tree) (m : Option Subst) → IsSound s → RestAgrees s rest → mgu s.subst t u ≡ m → IsSound (bind_step s rest m)
sound_told s rest t u None h k is = record { solved = h.solved; ascends = h.ascends; agrees = h.agrees }
sound_told s rest t u (Some r) h k is = record { solved = (mgu_makes_equal s.subst t u h.solved r is).0; ascends = h.ascends; agrees = wakes s rest h k }

sound_evaluated : (s : State) (rest : List Element) (x : Tree) (v : Result ℤ Fault) → IsSound s → RestAgrees s rest → IsSound (evaluate_step s rest x v)
sound_evaluated s rest x (Err e) h k = record { solved = h.solved; ascends = h.ascends; agrees = h.agrees }
sound_evaluated s rest x (Ok z) h k = sound_told s rest x (int z) (mgu s.subst x (int z)) h k refl

sound_either : (b : Bool) (t u : State) → IsSound t → IsSound u → IsSound (cond b t u)
sound_either true t u h k = h
sound_either false t u h k = k

sound_decided : (s : State) (rest : List Element) (c : Comparison) (v w : Result ℤ Fault) → IsSound s → RestAgrees s rest → IsSound (compare_step s rest c v w)
sound_decided s rest c (Err e) w h k = record { solved = h.solved; ascends = h.ascends; agrees = h.agrees }
sound_decided s rest c (Ok x) (Err e) h k = record { solved = h.solved; ascends = h.ascends; agrees = h.agrees }
sound_decided s rest c (Ok x) (Ok y) h k =
    sound_either (comparison_holds c x y) _ _ (record { solved = h.solved; ascends = h.ascends; agrees = wakes s rest h k }) (record { solved = h.solved; ascends = h.ascends; agrees = h.agrees })

sound_goal : (s : State) (rest : List Element) (g : Goal) → IsSound s → RestAgrees s rest → IsSound (solve s rest g)
sound_goal s rest (constraint a) h k = record {
  solved = h.solved;
  ascends = Ascends-push 0 s.next_id s.store a h.ascends;
  agrees = ((omega arith, λ b e. atom_last 0 s.next_id a b s.store h.ascends e), agrees_into s.store (s.store ++ (s.next_id, a) ∷ []) s.next_id (s.next_id + 1) rest (omega arith, λ i b l e. atom_before s.next_id i a b s.store l e) k);
}
sound_goal s rest (tell t u) h k = sound_told s rest t u (mgu s.subst t u) h k refl
sound_goal s rest (evaluate x t) h k = sound_evaluated s rest x (value (apply s.subst t)) h k
sound_goal s rest (compare c t u) h k = sound_decided s rest c _ _ h k
sound_goal s rest fail h k = record { solved = h.solved; ascends = h.ascends; agrees = h.agrees }

body_agrees : (b : Bool) (xs : List Row) (n : ℕ) (e : Element) (rest : List Element) → AgreesAt xs n e → Agrees xs n rest → Agrees xs n (cond b (e ∷ rest) rest)
body_agrees true xs n e rest h k = (h, k)
body_agrees false xs n e rest h k = k

sound_found : (s : State) (rest : List Element) (i j : ℕ) (a : Atom) (w : Found) → IsSound s → IsGoalOf s.store s.next_id i a → RestAgrees s rest → IsSound (search_step s rest i j a w)
sound_found s rest i j a no_occurrence h l k = record { solved = h.solved; ascends = h.ascends; agrees = k }
sound_found s rest i j a no_firing h l k = record { solved = h.solved; ascends = h.ascends; agrees = (l, k) }
sound_found s rest i j a (firing n r place t) h l k =
    let test = λ (x : Row). not (has_number (drop r.kept (ids_of t)) x.0) in
    record {
      solved = h.solved;
      ascends = Ascends-filter test 0 s.next_id s.store h.ascends;
      agrees = agrees_append (filter test s.store) s.next_id _ _ (agrees_goals (filter test s.store) s.next_id _ r.body)
          (agrees_into s.store (filter test s.store) s.next_id s.next_id (cond (nat_lt place r.kept) (active i j a ∷ rest) rest) (omega arith, λ x b u e. atom_of_part test 0 s.next_id s.store x b h.ascends e)
          (body_agrees (nat_lt place r.kept) s.store s.next_id (active i j a) rest l k));
    }

sound_top : (p : Program) (s : State) (es : List Element) → IsSound s → RestAgrees s es → IsSound (step_top p s es)
sound_top p s [] h k = h
sound_top p s (goal g ∷ es) h k = sound_goal s es g h k.1
sound_top p s (known i a ∷ es) h k = record { solved = h.solved; ascends = h.ascends; agrees = k }
sound_top p s (active i j a ∷ es) h k = sound_found s es i j a (search_at p s i j a) h k.0 k.1

sound_at : (p : Program) (s : State) (w : Status) → IsSound s → IsSound (step_at p s w)
sound_at p s running h = sound_top p s s.stack h h.agrees
sound_at p s done h = h
sound_at p s failed h = h
sound_at p s (faulted f) h = h

-- a step
pub sound_step : (p : Program) (s : State) → IsSound s → IsSound (step p s)
sound_step p s h = sound_at p s s.status h

-- the start of a query
pub sound_start : (r : Query) → IsSound (start r)
sound_start r = record { solved = nothing_solved; ascends = omega arith; agrees = agrees_goals [] 1 (λ g. g) r.goals }

-- n steps
pub sound_after : (p : Program) (n : ℕ) (s : State) → IsSound s → IsSound (after p s n)
sound_after p zero s h = h
sound_after p (suc n) s h = sound_after p n (step p s) (sound_step p s h)
