-- A transition that does not fire a rule leaves the entries of that rule as they were.
use Rattle.std.proofs.Common.{Bool, Err, List, None, Ok, Option, Result, Some, [], ap, cond, false, refl, true, ℕ, ℤ, ◌++◌, ◌==◌, ◌∷◌, ◌≡◌}
use Rattle.chr_semantics.specs.Guard.{comparison_holds}
use Rattle.chr_semantics.specs.Mgu.{mgu}
use Rattle.chr_semantics.specs.Program.{Atom, Comparison, Goal, Program, compare, constraint, evaluate, fail, tell}
use Rattle.chr_semantics.specs.Search.{Found, History, firing, ids_of, no_firing, no_occurrence, rule_entries}
use Rattle.chr_semantics.specs.State.{Element, State, Status, active, done, failed, faulted, goal, known, running}
use Rattle.chr_semantics.specs.Step.{compare_step, evaluate_step, search_at, search_step, solve, step, step_at, step_top, bind_step}
use Rattle.chr_semantics.specs.Subst.{Subst, apply}
use Rattle.chr_semantics.specs.Touch.{rule, found_touches, touches, touches_at, touches_top}
use Rattle.chr_semantics.specs.Tree.{Tree, int}
use Rattle.chr_semantics.specs.Value.{Fault, value}
use Rattle.chr_semantics.proofs.FirstTuple.{}

-- the history
told_history : (s : State) (rest : List Element) (m : Option Subst) → (bind_step s rest m).history ≡ s.history
told_history s rest None = refl
told_history s rest (Some r) = refl

evaluated_history : (s : State) (rest : List Element) (x : Tree) (v : Result ℤ Fault) → (evaluate_step s rest x v).history ≡ s.history
evaluated_history s rest x (Err e) = refl
evaluated_history s rest x (Ok z) = told_history s rest (mgu s.subst x (int z))

either_history : (b : Bool) (t u : State) (h : History) → t.history ≡ h → u.history ≡ h → (cond b t u).history ≡ h
either_history true t u h e f = e
either_history false t u h e f = f

decided_history : (s : State) (rest : List Element) (c : Comparison) (v w : Result ℤ Fault) → (compare_step s rest c v w).history ≡ s.history
decided_history s rest c (Err e) w = refl
decided_history s rest c (Ok x) (Err e) = refl
decided_history s rest c (Ok x) (Ok y) = either_history (comparison_holds c x y) _ _ s.history refl refl

pub goal_history : (s : State) (rest : List Element) (g : Goal) → (solve s rest g).history ≡ s.history
goal_history s rest (constraint a) = refl
goal_history s rest (tell t u) = told_history s rest (mgu s.subst t u)
goal_history s rest (evaluate x t) = evaluated_history s rest x (value (apply s.subst t))
goal_history s rest (compare c t u) = decided_history s rest c _ _
goal_history s rest fail = refl

cons_at : (b : Bool) (f : ℕ × List ℕ) (xs ys : History) → xs ≡ ys → cond b (f ∷ xs) xs ≡ cond b (f ∷ ys) ys
cons_at true f xs ys e = cc
cons_at false f xs ys e = e

entries_push : (r n : ℕ) (ids : List ℕ) (h : History) → (n == r) ≡ false → rule_entries r (h ++ (n, ids) ∷ []) ≡ rule_entries r h
entries_push r n ids [] e = rw e refl
entries_push r n ids (f ∷ h) e = cons_at (f.0 == r) f _ _ (entries_push r n ids h e)

found_entries : (r : ℕ) (s : State) (rest : List Element) (i j : ℕ) (a : Atom) (w : Found) → found_touches s w (rule r) ≡ false → rule_entries r (search_step s rest i j a w).history ≡ rule_entries r s.history
found_entries r s rest i j a no_occurrence e = refl
found_entries r s rest i j a no_firing e = refl
found_entries r s rest i j a (firing n q place t) e = entries_push r n (ids_of t) s.history e

top_entries : (p : Program) (r : ℕ) (s : State) (es : List Element) → touches_top p s es (rule r) ≡ false → rule_entries r (step_top p s es).history ≡ rule_entries r s.history
top_entries p r s [] e = refl
top_entries p r s (goal g ∷ es) e = ap (rule_entries r) (goal_history s es g)
top_entries p r s (known i a ∷ es) e = refl
top_entries p r s (active i j a ∷ es) e = found_entries r s es i j a (search_at p s i j a) e

at_entries : (p : Program) (r : ℕ) (s : State) (w : Status) → touches_at p s w (rule r) ≡ false → rule_entries r (step_at p s w).history ≡ rule_entries r s.history
at_entries p r s running e = top_entries p r s s.stack e
at_entries p r s done e = refl
at_entries p r s failed e = refl
at_entries p r s (faulted f) e = refl

-- so it is with the step of a state
pub entries_step : (p : Program) (r : ℕ) (s : State) → touches p s (rule r) ≡ false → rule_entries r (step p s).history ≡ rule_entries r s.history
entries_step p r s e = at_entries p r s s.status e
