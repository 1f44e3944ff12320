-- A run that goes on has a goal on its stack, so that its next transition is of a kind.
use Rattle.std.proofs.Common.{◌≡◌, ◌∙◌, ℕ, zero, suc, ℤ, ◌++◌, Result, Ok, Err, Bool, true, false, cond, List, [], ◌∷◌, map, Option, Some, None, ap, refl, sym}
use Rattle.chr_semantics.specs.Guard.{comparison_holds}
use Rattle.chr_semantics.specs.Mgu.{mgu}
use Rattle.chr_semantics.specs.Profile.{Kind, kind_next, kind_on_top}
use Rattle.chr_semantics.specs.Program.{Atom, Comparison, Goal, Program, Query, constraint, tell, evaluate, compare, fail}
use Rattle.chr_semantics.specs.Search.{Found, firing, no_firing, no_occurrence}
use Rattle.chr_semantics.specs.State.{Element, State, Status, active, done, failed, faulted, goal, known, running, start, status_at, with_stack}
use Rattle.chr_semantics.specs.Step.{after, bind_step, compare_step, evaluate_step, is_running, search_at, search_step, solve, step, step_at, step_top, with_status, woken_elements}
use Rattle.chr_semantics.specs.Subst.{Subst, apply}
use Rattle.chr_semantics.specs.Tree.{Tree, int}
use Rattle.chr_semantics.specs.Value.{Fault, value}

abbrev pub IsAlive : State → Type 0
IsAlive s = s.status ≡ running → s.stack ≡ [] → ⊥

stack_runs : (es : List Element) → status_at es ≡ running → es ≡ [] → ⊥
stack_runs [] r e = cc
stack_runs (x ∷ es) r e = cc

module _ (s : State) (alive : IsAlive s) (rest : List Element) where
  alive_bound : (m : Option Subst) → IsAlive (bind_step s rest m)
  alive_bound None r e = cc
  alive_bound (Some t) r e = stack_runs (woken_elements s ++ rest) r e

  alive_evaluated : (x : Tree) (v : Result ℤ Fault) → IsAlive (evaluate_step s rest x v)
  alive_evaluated x (Err f) r e = cc
  alive_evaluated x (Ok z) r e = alive_bound (mgu s.subst x (int z)) r e

  alive_decided : (b : Bool) → IsAlive (cond b (with_stack s (woken_elements s ++ rest)) (with_status s failed))
  alive_decided true r e = stack_runs (woken_elements s ++ rest) r e
  alive_decided false r e = cc

  alive_compared : (c : Comparison) (v w : Result ℤ Fault) → IsAlive (compare_step s rest c v w)
  alive_compared c (Err f) w r e = cc
  alive_compared c (Ok x) (Err f) r e = cc
  alive_compared c (Ok x) (Ok y) r e = alive_decided (comparison_holds c x y) r e

  alive_goal : (g : Goal) → IsAlive (solve s rest g)
  alive_goal (constraint a) r e = cc
  alive_goal (tell t u) r e = alive_bound (mgu s.subst t u) r e
  alive_goal (evaluate x t) r e = alive_evaluated x (value (apply s.subst t)) r e
  alive_goal (compare c t u) r e = alive_compared c (value (apply s.subst t)) (value (apply s.subst u)) r e
  alive_goal fail r e = cc

  alive_found : (i j : ℕ) (a : Atom) (f : Found) → IsAlive (search_step s rest i j a f)
  alive_found i j a no_occurrence r e = stack_runs rest r e
  alive_found i j a no_firing r e = cc
  alive_found i j a (firing n rule place t) r e = stack_runs _ r e

alive_top : (p : Program) (s : State) → IsAlive s → (es : List Element) → IsAlive (step_top p s es)
alive_top p s alive [] r e = alive r e
alive_top p s alive (goal g ∷ rest) r e = alive_goal s alive rest g r e
alive_top p s alive (known i a ∷ rest) r e = cc
alive_top p s alive (active i j a ∷ rest) r e = alive_found s alive rest i j a (search_at p s i j a) r e

alive_at : (p : Program) (s : State) → IsAlive s → (w : Status) → IsAlive (step_at p s w)
alive_at p s alive running r e = alive_top p s alive s.stack r e
alive_at p s alive done r e = alive r e
alive_at p s alive failed r e = alive r e
alive_at p s alive (faulted f) r e = alive r e

alive_steps : (p : Program) (n : ℕ) (s : State) → IsAlive s → IsAlive (after p s n)
alive_steps p zero s alive r e = alive r e
alive_steps p (suc n) s alive r e = alive_steps p n (step p s) (alive_at p s alive s.status) r e

-- each state of a query's run
pub alive_after : (p : Program) (q : Query) (n : ℕ) → IsAlive (after p (start q) n)
alive_after p q n r e = alive_steps p n (start q) (stack_runs (start q).stack) r e

-- the next transition is of a kind
pub some_kind : (p : Program) (s : State) → IsAlive s → s.status ≡ running → kind_next p s ≡ None → ⊥
some_kind p s alive runs none = by s.stack (alive runs) (sym (ap (λ (w : Status). cond (is_running w) (kind_on_top p s s.stack) None) runs) ∙ none)
  where
    by : (es : List Element) → (es ≡ [] → ⊥) → kind_on_top p s es ≡ None → ⊥
    by [] full e = full refl
    by (goal g ∷ es) full e = cc
    by (known i a ∷ es) full e = cc
    by (active i j a ∷ es) full e = cc
