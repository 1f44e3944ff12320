-- What each transition is called in the trace.
use Rattle.std.specs.Prelude.{ℕ, cond, nat_lt, List, [], ◌∷◌, Option, Some, None}
use Rattle.chr_semantics.specs.Subst.{value_at}
use Rattle.chr_semantics.specs.Value.{Fault}
use Rattle.chr_semantics.specs.Program.{Atom, Goal, constraint, tell, evaluate, compare, fail, Program}
use Rattle.chr_semantics.specs.Search.{ids_of, Found, no_occurrence, no_firing, firing}
use Rattle.chr_semantics.specs.State.{Element, goal, known, active, Status, running, done, failed, faulted, State, resolved_atom}
use Rattle.chr_semantics.specs.Step.{solve, goal_instance, search_at}

pub data Line : Type 0 where
  solves : Goal → Line
  fails : Goal → Line
  faults : Goal → Fault → Line
  activates : Atom → ℕ → Line
  reactivates : Atom → ℕ → Line
  drops : Atom → ℕ → ℕ → Line
  defaults : Atom → ℕ → ℕ → Line
  simplifies : Atom → ℕ → ℕ → List ℕ → List ℕ → Line
  propagates : Atom → ℕ → ℕ → List ℕ → List ℕ → Line

-- a Solve by the status that it led to
abbrev pub solve_line : Goal → Status → Line
solve_line g running = solves g
solve_line g done = solves g
solve_line g failed = fails g
solve_line g (faulted f) = faults g f

abbrev pub goal_line : State → Goal → Status → Line
goal_line s (constraint a) w = activates (resolved_atom s.subst a) s.next_id
goal_line s (tell t u) w = solve_line (goal_instance (value_at s.subst) (tell t u)) w
goal_line s (evaluate t u) w = solve_line (goal_instance (value_at s.subst) (evaluate t u)) w
goal_line s (compare c t u) w = solve_line (goal_instance (value_at s.subst) (compare c t u)) w
goal_line s fail w = solve_line fail w

abbrev pub search_line : Atom → ℕ → ℕ → Found → Line
search_line a i j no_occurrence = drops a i j
search_line a i j no_firing = defaults a i j
search_line a i j (firing r rule place t) = cond (nat_lt place rule.kept) (propagates a i j rule.label (ids_of t)) (simplifies a i j rule.label (ids_of t))

abbrev pub line_top : Program → State → List Element → Option Line
line_top p s [] = None
line_top p s (goal g ∷ rest) = Some (goal_line s g (solve s rest g).status)
line_top p s (known i a ∷ rest) = Some (reactivates (resolved_atom s.subst a) i)
line_top p s (active i j a ∷ rest) = Some (search_line (resolved_atom s.subst a) i j (search_at p s i j a))

abbrev pub line_at : Program → State → Status → Option Line
line_at p s running = line_top p s s.stack
line_at p s done = None
line_at p s failed = None
line_at p s (faulted f) = None

-- what the next transition is called, with its goal resolved by the bindings before it
abbrev pub line : Program → State → Option Line
line p s = line_at p s s.status
