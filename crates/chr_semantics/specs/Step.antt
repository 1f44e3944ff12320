-- The transitions (Duck et al. 2004, figure of the refined operational semantics: Solve, Activate, Reactivate, Drop, Simplify, Propagate,
-- Default). Failure, faults and which constraints wake are this project's own choices.
use Rattle.std.specs.Prelude.{ℕ, zero, suc, ◌+◌, ◌-◌, ℤ, Bool, true, false, cond, not, nat_lt, List, [], ◌∷◌, ◌++◌, map, drop, Option, Some, None, unwrap_or, Result, Ok, Err, filter}
use Rattle.chr_semantics.specs.Tree.{Tree, var, int, is_ground_trees}
use Rattle.chr_semantics.specs.Subst.{Subst, value_at, apply, instance, instances}
use Rattle.chr_semantics.specs.Mgu.{mgu}
use Rattle.chr_semantics.specs.Value.{value, Fault}
use Rattle.chr_semantics.specs.Program.{Atom, Comparison, Goal, constraint, tell, evaluate, compare, fail, Rule, Program}
use Rattle.chr_semantics.specs.Match.{Row, fits}
use Rattle.chr_semantics.specs.Guard.{comparison_holds}
use Rattle.chr_semantics.specs.Search.{ids_of, has_number, Found, no_occurrence, no_firing, firing, search_for}
use Rattle.chr_semantics.specs.State.{Element, goal, known, active, Status, running, done, failed, faulted, State, rows, with_stack}

-- the run ends here, with its stack as it is
abbrev pub with_status : State → Status → State
with_status s w = record s { status = w }

-- all constraints of the store that are not ground under the bindings wake, the least identity topmost
abbrev pub woken_elements : State → List Element
woken_elements s = map (λ (r : Row). known r.0 r.1) (filter (λ (r : Row). not (is_ground_trees (instances (value_at s.subst) r.1.args))) s.store)

-- a told equation holds with the new bindings, or fails
abbrev pub bind_step : State → List Element → Option Subst → State
bind_step s rest None = with_status s failed
bind_step s rest (Some r) = with_stack (record s { subst = r }) (woken_elements s ++ rest)

abbrev pub evaluate_step : State → List Element → Tree → Result ℤ Fault → State
evaluate_step s rest x (Err f) = with_status s (faulted f)
evaluate_step s rest x (Ok z) = bind_step s rest (mgu s.subst x (int z))

-- the left side comes first, and the first fault counts
abbrev pub compare_step : State → List Element → Comparison → Result ℤ Fault → Result ℤ Fault → State
compare_step s rest c (Err f) b = with_status s (faulted f)
compare_step s rest c (Ok x) (Err f) = with_status s (faulted f)
compare_step s rest c (Ok x) (Ok y) = cond (comparison_holds c x y) (with_stack s (woken_elements s ++ rest)) (with_status s failed)

-- Activate, and Solve by the goal
abbrev pub solve : State → List Element → Goal → State
solve s rest (constraint a) = with_stack (record s { store = s.store ++ (s.next_id, a) ∷ []; next_id = s.next_id + 1 }) (active s.next_id 1 a ∷ rest)
solve s rest (tell t u) = bind_step s rest (mgu s.subst t u)
solve s rest (evaluate x t) = evaluate_step s rest x (value (apply s.subst t))
solve s rest (compare c t u) = compare_step s rest c (value (apply s.subst t)) (value (apply s.subst u))
solve s rest fail = with_status s failed

-- what a variable of the rule stands for in its body: a head's variable is matched, and one of the body alone is new
abbrev pub in_body : Rule → Subst → ℕ → ℕ → Tree
in_body rule m next x = cond (nat_lt x rule.head_vars) (value_at m x) (var (next + (x - rule.head_vars)))

-- the goal with its variables replaced
abbrev pub goal_instance : (ℕ → Tree) → Goal → Goal
goal_instance f (constraint a) = constraint (record { sym = a.sym; args = instances f a.args })
goal_instance f (tell t u) = tell (instance f t) (instance f u)
goal_instance f (evaluate t u) = evaluate (instance f t) (instance f u)
goal_instance f (compare c t u) = compare c (instance f t) (instance f u)
goal_instance f fail = fail

-- the goals of the body of a rule that fires with the rows
abbrev pub body_of : Rule → List Row → ℕ → List Element
body_of rule t next = map (λ g. goal (goal_instance (in_body rule (unwrap_or (fits rule.heads t) []) next) g)) rule.body

-- a firing: the removed heads leave the store, the list is entered in the history, and the body goes in the place of the active
-- constraint (Simplify, at a removed head) or above it (Propagate, at a kept one)
abbrev pub fire_step : State → List Element → Element → ℕ → Rule → ℕ → List Row → State
fire_step s rest top r rule place t =
    with_stack (record s {
      store = filter (λ (row : Row). not (has_number (drop rule.kept (ids_of t)) row.0)) s.store;
      history = s.history ++ (r, ids_of t) ∷ [];
      next_var = s.next_var + (rule.vars - rule.head_vars);
    }) (body_of rule t s.next_var ++ cond (nat_lt place rule.kept) (top ∷ rest) rest)

-- the search for the active constraint i at its occurrence j, by the symbol of its goal
abbrev pub search_at : Program → State → ℕ → ℕ → Atom → Found
search_at p s i j a = search_for p (rows s) s.history a.sym i j

-- Drop, Default, or a firing, by what the search found
abbrev pub search_step : State → List Element → ℕ → ℕ → Atom → Found → State
search_step s rest i j a no_occurrence = with_stack s rest
search_step s rest i j a no_firing = with_stack s (active i (j + 1) a ∷ rest)
search_step s rest i j a (firing r rule place t) = fire_step s rest (active i j a) r rule place t

-- the transition by the top of the stack
abbrev pub step_top : Program → State → List Element → State
step_top p s [] = s
step_top p s (goal g ∷ rest) = solve s rest g
step_top p s (known i a ∷ rest) = with_stack s (active i 1 a ∷ rest)
step_top p s (active i j a ∷ rest) = search_step s rest i j a (search_at p s i j a)

abbrev pub step_at : Program → State → Status → State
step_at p s running = step_top p s s.stack
step_at p s done = s
step_at p s failed = s
step_at p s (faulted f) = s

-- the next state; an ended one is its own
abbrev pub step : Program → State → State
step p s = step_at p s s.status

-- the state after n steps
abbrev pub after : Program → State → ℕ → State
after p s zero = s
after p s (suc n) = after p (step p s) n

-- of the first n steps, how many are made from a state that passes the test
abbrev pub count_steps : Program → (State → Bool) → State → ℕ → ℕ
count_steps p test s zero = 0
count_steps p test s (suc n) = cond (test s) 1 0 + count_steps p test (step p s) n

abbrev pub is_running : Status → Bool
is_running running = true
is_running done = false
is_running failed = false
is_running (faulted f) = false

-- how many of the first n steps are transitions
abbrev pub steps : Program → State → ℕ → ℕ
steps p s n = count_steps p (λ t. is_running t.status) s n
