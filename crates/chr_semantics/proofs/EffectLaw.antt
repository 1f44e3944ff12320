-- A run is made again from what its transitions change.
use Rattle.std.proofs.Common.{◌≡◌, ◌∙◌, ℕ, ℤ, ◌+◌, ◌<◌, ◌≤◌, Bool, true, false, cond, not, ◌&&◌, ◌==◌, ◌||◌, List, [], ◌∷◌, ◌++◌, Option, Some, None, Result, Ok, Err, append-nil, ap, refl, sym, subst, map, arith, true≢false}
use Rattle.std.specs.Prelude.{filter, filter_map, option_map}
use Rattle.std.specs.List.{list_any}
use Rattle.std.proofs.lemmas.List.Folds.{list_any-append}
use Rattle.std.proofs.lemmas.Bool.Decides.{Decides-eqb}
use Rattle.chr_semantics.specs.Footprint.{Ascends, IsSound}
use Rattle.chr_semantics.specs.Match.{Row}
use Rattle.chr_semantics.specs.Mgu.{mgu, vars}
use Rattle.chr_semantics.specs.Program.{Atom, Comparison, Goal, Program, constraint, tell, evaluate, compare, fail}
use Rattle.chr_semantics.specs.Guard.{comparison_holds}
use Rattle.chr_semantics.specs.Effect.{AreGiven, AreValues, Effect, IsEffect, IsGoalEffect, IsShownAs, IsTold, IsTopEffect, EffectLaw, binds, with_effect, effect_on, effect_on_top, ends, enters, found_effect, open_in, sides, valued, waiting, wakes, woken_ids}
use Rattle.chr_semantics.specs.Search.{Found, atom_of, firing, ids_of, no_firing, no_occurrence}
use Rattle.chr_semantics.specs.State.{Element, State, Status, active, done, failed, faulted, goal, known, running, status_at, with_stack}
use Rattle.chr_semantics.specs.Step.{bind_step, compare_step, evaluate_step, search_at, search_step, solve, step, step_at, step_top, with_status, woken_elements}
use Rattle.chr_semantics.specs.Subst.{IsSolved, Solves, Subst, apply, binds_var, instance, instances, occurs, occurs_any, value_at}
use Rattle.chr_semantics.specs.Tree.{Tree, Trees, int, is_ground_trees, more, node, none, var}
use Rattle.chr_semantics.specs.Value.{Fault, value}
use Rattle.chr_semantics.proofs.Lookups.{Ascends-ends}
use Rattle.chr_semantics.proofs.SolvedLaw.{solved_twice, unbound_stays}
use Rattle.chr_semantics.proofs.UnifierBinds.{unifier_binds}
use Rattle.chr_semantics.proofs.UnifierEqual.{mgu_makes_equal}

-- ---- values

value_before : (xs ys : Subst) (x : ℕ) → value_at (xs ++ ys) x ≡ cond (binds_var xs x) (value_at xs x) (value_at ys x)
value_before [] ys x = refl
value_before (p ∷ xs) ys x = by (p.0 == x) (value_before xs ys x)
  where
    by : (b : Bool) → value_at (xs ++ ys) x ≡ cond (binds_var xs x) (value_at xs x) (value_at ys x)
        → cond b p.1 (value_at (xs ++ ys) x) ≡ cond (b || binds_var xs x) (cond b p.1 (value_at xs x)) (value_at ys x)
    by true e = refl
    by false e = e

value_mapped : (f : Tree → Tree) (s : Subst) (x : ℕ) → value_at (map (λ (p : ℕ × Tree). (p.0, f p.1)) s) x ≡ cond (binds_var s x) (f (value_at s x)) (var x)
value_mapped f [] x = refl
value_mapped f (p ∷ s) x = by (p.0 == x) (value_mapped f s x)
  where
    by : (b : Bool) → value_at (map (λ (q : ℕ × Tree). (q.0, f q.1)) s) x ≡ cond (binds_var s x) (f (value_at s x)) (var x)
        → cond b (f p.1) (value_at (map (λ (q : ℕ × Tree). (q.0, f q.1)) s) x) ≡ cond (b || binds_var s x) (f (cond b p.1 (value_at s x))) (var x)
    by true e = refl
    by false e = e

given_value : (t new : Subst) (x : ℕ) → AreValues t new → binds_var new x ≡ true → value_at new x ≡ value_at t x
given_value t [] x all e = absurd (true≢false (sym e))
given_value t (p ∷ new) x all e = by (p.0 == x) refl (given_value t new x all.1) e
  where
    by : (b : Bool) → (p.0 == x) ≡ b → (binds_var new x ≡ true → value_at new x ≡ value_at t x) → (b || binds_var new x) ≡ true → cond b p.1 (value_at new x) ≡ value_at t x
    by true is go e = sym all.0 ∙ ap (value_at t) ((Decides-eqb p.0 x).0 is)
    by false is go e = go e

mutual
  same_where : (f g : ℕ → Tree) (t : Tree) → ((z : ℕ) → occurs z t ≡ true → f z ≡ g z) → instance f t ≡ instance g t
  same_where f g (var x) h = h x ((Decides-eqb x x).1 refl)
  same_where f g (int z) h = refl
  same_where f g (node k ts) h = ap (node k) (same_where_all f g ts h)

  same_where_all : (f g : ℕ → Tree) (ts : Trees) → ((z : ℕ) → occurs_any z ts ≡ true → f z ≡ g z) → instances f ts ≡ instances g ts
  same_where_all f g none h = refl
  same_where_all f g (more t ts) h = λ k. more (same_where f g t (λ z e. h z (left (occurs z t) (occurs_any z ts) e)) k) (same_where_all f g ts (λ z e. h z (right (occurs z t) (occurs_any z ts) e)) k)
    where
      left : (b c : Bool) → b ≡ true → (b || c) ≡ true
      left true c e = refl
      left false c e = absurd (true≢false (sym e))

      right : (b c : Bool) → c ≡ true → (b || c) ≡ true
      right true c e = refl
      right false c e = e

module _ (s t new : Subst) (solved : IsSolved s) (solves : Solves (value_at t) s) (given : AreGiven s t new) where
  -- of a variable that s does not bind
  free_value : (x : ℕ) → binds_var s x ≡ false → value_at new x ≡ value_at t x
  free_value x free = by (binds_var t x) refl
    where
      those : binds_var new x ≡ binds_var t x
      those = given.those x ∙ ap (λ (b : Bool). not b && binds_var t x) free

      by : (b : Bool) → binds_var t x ≡ b → value_at new x ≡ value_at t x
      by true is = given_value t new x given.values (those ∙ is)
      by false is = unbound_stays new x (those ∙ is) ∙ sym (unbound_stays t x is)

  bound_value : (x : ℕ) → binds_var s x ≡ true → apply new (value_at s x) ≡ value_at t x
  bound_value x bound = same_where (value_at new) (value_at t) (value_at s x) (λ z inside. free_value z (not_bound z (binds_var s z) refl inside)) ∙ solves x
    where
      not_bound : (z : ℕ) (b : Bool) → binds_var s z ≡ b → occurs z (value_at s x) ≡ true → binds_var s z ≡ false
      not_bound z true is inside = absurd (true≢false (sym inside ∙ solved x z is))
      not_bound z false is inside = is

  valued_is : (x : ℕ) → value_at (valued new s) x ≡ value_at t x
  valued_is x = value_before new (map (λ (p : ℕ × Tree). (p.0, apply new p.1)) s) x ∙ ap (cond (binds_var new x) (value_at new x)) (value_mapped (apply new) s x) ∙ by (binds_var s x) refl (binds_var new x) refl
    where
      by : (b : Bool) → binds_var s x ≡ b → (d : Bool) → binds_var new x ≡ d → cond d (value_at new x) (cond b (apply new (value_at s x)) (var x)) ≡ value_at t x
      by b is true e = given_value t new x given.values e
      by true is false e = bound_value x is
      by false is false e = sym (unbound_stays new x e) ∙ free_value x is

-- ---- constraints that wake

-- rows are found among others by their identities
abbrev AreThere : List Row → List Row → Type 0
AreThere xs [] = Unit {0}
AreThere xs (r ∷ rs) = (atom_of xs r.0 ≡ Some r.1) × AreThere xs rs

there_more : (x : Row) (lo hi : ℕ) (xs rs : List Row) → x.0 < lo → Ascends lo rs hi → AreThere xs rs → AreThere (x ∷ xs) rs
there_more x lo hi xs [] lt up all = tt
there_more x lo hi xs (r ∷ rs) lt up all = (apart (x.0 == r.0) refl, there_more x (r.0 + 1) hi xs rs (omega (arith, lt, up.0)) up.1 all.1)
  where
    apart : (b : Bool) → (x.0 == r.0) ≡ b → cond b (Some x.1) (atom_of xs r.0) ≡ Some r.1
    apart true is = let same : x.0 ≡ r.0 = (Decides-eqb x.0 r.0).0 is in absurd (omega (arith, lt, up.0, same))
    apart false is = all.0

there : (lo hi : ℕ) (xs : List Row) → Ascends lo xs hi → AreThere xs xs
there lo hi [] up = tt
there lo hi (x ∷ xs) up = (ap (λ (b : Bool). cond b (Some x.1) (atom_of xs x.0)) ((Decides-eqb x.0 x.0).1 refl), there_more x (x.0 + 1) hi xs xs (omega arith) up.1 (there (x.0 + 1) hi xs up.1))

waiting_are : (rows : List Row) (test : Row → Bool) (rs : List Row) → AreThere rows rs → waiting rows (ids_of (filter test rs)) ≡ map (λ (r : Row). known r.0 r.1) (filter test rs)
waiting_are rows test [] all = refl
waiting_are rows test (r ∷ rs) all = by (test r) (waiting_are rows test rs all.1)
  where
    by : (b : Bool) → waiting rows (ids_of (filter test rs)) ≡ map (λ (x : Row). known x.0 x.1) (filter test rs)
        → waiting rows (ids_of (cond b (r ∷ filter test rs) (filter test rs))) ≡ map (λ (x : Row). known x.0 x.1) (cond b (r ∷ filter test rs) (filter test rs))
    by true e = rw all.0 (ap (λ (es : List Element). known r.0 r.1 ∷ es) e)
    by false e = e

woken_wait : (s : State) → IsSound s → waiting s.store (woken_ids s) ≡ woken_elements s
woken_wait s h = waiting_are s.store _ s.store (there 0 s.next_id s.store h.ascends)

-- ---- the law

shown : (s : State) → IsShownAs s s
shown s = record { stack = refl; store = refl; values = λ x. refl; history = refl; next_id = refl; status = refl }

shown_same : (s t : State) → s ≡ t → IsShownAs s t
shown_same s t e = subst (IsShownAs s) e (shown s)

-- a built-in holds, and the bindings t come of it
holds_shown : (s : State) (rest : List Element) (t new : Subst) → IsSound s → Solves (value_at t) s.subst → AreGiven s.subst t new
    → IsShownAs (with_stack (record s { subst = valued new s.subst }) (waiting s.store (woken_ids s) ++ rest)) (with_stack (record s { subst = t }) (woken_elements s ++ rest))
holds_shown s rest t new h solves given =
    let wait : (waiting s.store (woken_ids s) ++ rest) ≡ (woken_elements s ++ rest) = ap (λ (es : List Element). es ++ rest) (woken_wait s h) in
    record { stack = wait; store = refl; values = valued_is s.subst t new h.solved solves given; history = refl; next_id = refl; status = ap status_at wait }

module _ (s : State) (h : IsSound s) (rest : List Element) (made : Effect → State) (made_binds : (new : Subst) (ids : List ℕ) → made (binds new ids) ≡ with_stack (record s { subst = valued new s.subst }) (waiting s.store ids ++ rest)) (made_ends : (w : Status) → made (ends w) ≡ with_status s w) where
  ended : (w : Status) (c : Effect) → c ≡ ends w → IsShownAs (made c) (with_status s w)
  ended w c e = shown_same (made c) (with_status s w) (ap made e ∙ made_ends w)

  held : (t : Subst) (c : Effect) → Solves (value_at t) s.subst → (new : Subst) × (c ≡ binds new (woken_ids s)) × AreGiven s.subst t new → IsShownAs (made c) (with_stack (record s { subst = t }) (woken_elements s ++ rest))
  held t c solves (new, is, given) = subst (λ (n : State). IsShownAs n (with_stack (record s { subst = t }) (woken_elements s ++ rest))) (sym (ap made is ∙ made_binds new (woken_ids s))) (holds_shown s rest t new h solves given)

  of_bindings : (t : Subst) (es : List Element) (c : Effect) → Solves (value_at t) s.subst → es ≡ woken_elements s ++ rest → (let n = with_stack (record s { subst = t }) es in IsTold s n n.status c) → IsShownAs (made c) (with_stack (record s { subst = t }) (woken_elements s ++ rest))
  of_bindings t [] c solves e told = held t c solves told
  of_bindings t (x ∷ es) c solves e told = held t c solves told

  told_shown : (t u : Tree) (m : Option Subst) → mgu s.subst t u ≡ m → (c : Effect) → (let n = bind_step s rest m in IsTold s n n.status c) → IsShownAs (made c) (bind_step s rest m)
  told_shown t u None is c told = ended failed c told
  told_shown t u (Some r) is c told = of_bindings r (woken_elements s ++ rest) c (mgu_makes_equal s.subst t u h.solved r is).1 refl told

  evaluated_shown : (x : Tree) (v : Result ℤ Fault) (c : Effect) → (let n = evaluate_step s rest x v in IsTold s n n.status c) → IsShownAs (made c) (evaluate_step s rest x v)
  evaluated_shown x (Err f) c told = ended (faulted f) c told
  evaluated_shown x (Ok z) c told = told_shown x (int z) (mgu s.subst x (int z)) refl c told

  decided_shown : (b : Bool) (c : Effect) → (let n = cond b (with_stack s (woken_elements s ++ rest)) (with_status s failed) in IsTold s n n.status c) → IsShownAs (made c) (cond b (with_stack s (woken_elements s ++ rest)) (with_status s failed))
  decided_shown true c told = of_bindings s.subst (woken_elements s ++ rest) c (solved_twice s.subst h.solved) refl told
  decided_shown false c told = ended failed c told

  compared_shown : (o : Comparison) (v w : Result ℤ Fault) (c : Effect) → (let n = compare_step s rest o v w in IsTold s n n.status c) → IsShownAs (made c) (compare_step s rest o v w)
  compared_shown o (Err f) w c told = ended (faulted f) c told
  compared_shown o (Ok x) (Err f) c told = ended (faulted f) c told
  compared_shown o (Ok x) (Ok y) c told = decided_shown (comparison_holds o x y) c told

goal_shown : (s : State) → IsSound s → (rest : List Element) (g : Goal) (c : Effect) → IsGoalEffect s rest g c → IsShownAs (effect_on_top s (goal g) rest c) (solve s rest g)
goal_shown s h rest (constraint a) c is = shown_same _ _ (ap (effect_on_top s (goal (constraint a)) rest) is)
goal_shown s h rest (tell t u) c is = told_shown s h rest (effect_on_top s (goal (tell t u)) rest) (λ new ids. refl) (λ w. refl) t u (mgu s.subst t u) refl c is
goal_shown s h rest (evaluate x t) c is = evaluated_shown s h rest (effect_on_top s (goal (evaluate x t)) rest) (λ new ids. refl) (λ w. refl) x (value (apply s.subst t)) c is
goal_shown s h rest (compare o t u) c is = compared_shown s h rest (effect_on_top s (goal (compare o t u)) rest) (λ new ids. refl) (λ w. refl) o (value (apply s.subst t)) (value (apply s.subst u)) c is
goal_shown s h rest fail c is = shown_same _ _ (ap (effect_on_top s (goal fail) rest) is)

found_shown : (s : State) (rest : List Element) (i j : ℕ) (a : Atom) (f : Found) → IsShownAs (effect_on_top s (active i j a) rest (found_effect s f)) (search_step s rest i j a f)
found_shown s rest i j a no_occurrence = shown _
found_shown s rest i j a no_firing = shown _
found_shown s rest i j a (firing r rule place t) = record { stack = refl; store = refl; values = λ x. refl; history = refl; next_id = refl; status = refl }

top_shown : (p : Program) (s : State) → IsSound s → (es : List Element) (c : Effect) → IsTopEffect p s es c → IsShownAs (effect_on s es c) (step_top p s es)
top_shown p s h [] c is = absurd is
top_shown p s h (goal g ∷ rest) c is = goal_shown s h rest g c is
top_shown p s h (known i a ∷ rest) c is = shown_same _ _ (ap (effect_on_top s (known i a) rest) is)
top_shown p s h (active i j a ∷ rest) c is =
    subst (λ (d : Effect). IsShownAs (effect_on_top s (active i j a) rest d) (search_step s rest i j a (search_at p s i j a))) (sym is) (found_shown s rest i j a (search_at p s i j a))

again : (p : Program) (s : State) → IsSound s → (c : Effect) → IsEffect p s c → IsShownAs (with_effect s c) (step p s)
again p s h c is = subst (λ (w : Status). IsShownAs (with_effect s c) (step_at p s w)) (sym is.0) (top_shown p s h s.stack c is.1)

-- ---- which variables get values

old_or : (a b : Bool) → a ≡ true → (a || b) ≡ true
old_or true b e = refl
old_or false b e = absurd (true≢false (sym e))

module _ (s : State) (rest : List Element) (x : ℕ) where
  told_only : (t u : Tree) (vs : List ℕ) (m : Option Subst) → mgu s.subst t u ≡ m → ((list_any (λ (v : ℕ). v == x) (vars (apply s.subst t) ++ vars (apply s.subst u)) ≡ true) → list_any (λ (v : ℕ). v == x) vs ≡ true)
      → binds_var (bind_step s rest m).subst x ≡ true → (binds_var s.subst x || list_any (λ (v : ℕ). v == x) vs) ≡ true
  told_only t u vs None is inside bound = old_or _ _ bound
  told_only t u vs (Some r) is inside bound = by (binds_var s.subst x) (unifier_binds s.subst t u r is x bound)
    where
      by : (b : Bool) → (b || list_any (λ (v : ℕ). v == x) (vars (apply s.subst t) ++ vars (apply s.subst u))) ≡ true → (b || list_any (λ (v : ℕ). v == x) vs) ≡ true
      by true e = refl
      by false e = inside e

  left_any : (vs ws : List ℕ) → list_any (λ (v : ℕ). v == x) vs ≡ true → list_any (λ (v : ℕ). v == x) (vs ++ ws) ≡ true
  left_any vs ws e = list_any-append (λ (v : ℕ). v == x) vs ws ∙ old_or _ _ e

  evaluated_only : (y t : Tree) (v : Result ℤ Fault) → binds_var (evaluate_step s rest y v).subst x ≡ true → (binds_var s.subst x || list_any (λ (w : ℕ). w == x) (open_in s.subst (sides (evaluate y t)))) ≡ true
  evaluated_only y t (Err f) bound = old_or _ _ bound
  evaluated_only y t (Ok z) bound =
      told_only y (int z) (open_in s.subst (sides (evaluate y t))) (mgu s.subst y (int z)) refl
      (λ e. left_any (vars (apply s.subst y)) (vars (apply s.subst t) ++ []) (sym (ap (list_any (λ (w : ℕ). w == x)) (append-nil (vars (apply s.subst y)))) ∙ e)) bound

  compared_only : (o : Comparison) (v w : Result ℤ Fault) → (compare_step s rest o v w).subst ≡ s.subst
  compared_only o (Err f) w = refl
  compared_only o (Ok a) (Err f) = refl
  compared_only o (Ok a) (Ok b) = by (comparison_holds o a b)
    where
      by : (d : Bool) → (cond d (with_stack s (woken_elements s ++ rest)) (with_status s failed)).subst ≡ s.subst
      by true = refl
      by false = refl

  only : (g : Goal) → binds_var (solve s rest g).subst x ≡ true → (binds_var s.subst x || list_any (λ (v : ℕ). v == x) (open_in s.subst (sides g))) ≡ true
  only (constraint a) bound = old_or _ _ bound
  only (tell t u) bound =
      told_only t u (open_in s.subst (sides (tell t u))) (mgu s.subst t u) refl (λ e. ap (λ (us : List ℕ). list_any (λ (v : ℕ). v == x) (vars (apply s.subst t) ++ us)) (append-nil (vars (apply s.subst u))) ∙ e) bound
  only (evaluate y t) bound = evaluated_only y t (value (apply s.subst t)) bound
  only (compare o t u) bound = old_or _ _ (sym (ap (λ (m : Subst). binds_var m x) (compared_only o (value (apply s.subst t)) (value (apply s.subst u)))) ∙ bound)
  only fail bound = old_or _ _ bound

pub effect_law : EffectLaw
effect_law = record { again = again; only = λ s rest g x. only s rest x g }
