-- What is worth searching ahead, and how such tasks are gathered, one after another.
use Rattle.std.specs.Prelude.{ℕ, ◌++◌, Bool, List, [], ◌∷◌, ◌&&◌, Option, Some, None, cond, length, nat_lt, not, take}
use Rattle.std.specs.List.{filter_map, flat_map, fold, list_any}
use Rattle.chr_semantics.specs.Program.{Program}
use Rattle.chr_semantics.specs.State.{Element, State, goal, known, active}
use Rattle.chr_semantics.specs.Tasks.{Task, below_top, element_search, guest_in, guest_tasks, lives, same_task, tasks_from}
use Rattle.chr_semantics.specs.declared.limits.TheConstants.{MAX_TASKS}
use Rattle.chr_machine.specs.declared.tasks.Waiting.{Waiting}

-- the symbol of a constraint, its identity, and from which occurrence on it is to be searched
abbrev pub waiting_view : Waiting → ℕ × ℕ × ℕ
waiting_view w = (w.sym.0, w.id.0, w.number)

-- the constraint that is active on top, where it lives, and the stack below it
abbrev pub active_of : State → List Element → Option ((ℕ × ℕ × ℕ) × List Element)
active_of s [] = None
active_of s (goal g ∷ es) = None
active_of s (known i a ∷ es) = None
active_of s (active i j a ∷ es) = cond (lives s i) (Some ((a.sym, i, j), es)) None

-- with one task more, unless n stand there already, or it is one of them
abbrev pub with_task : ℕ → List Task → Task → List Task
with_task n ts t = cond (nat_lt (length ts) n && not (list_any (same_task t) ts)) (ts ++ t ∷ []) ts

-- with all these
abbrev pub gathered : ℕ → List Task → List Task → List Task
gathered n ts us = fold (with_task n) ts us

-- the tasks of the first n elements that are waiting
abbrev pub waiting_tasks : Program → State → ℕ → List Element → List Task
waiting_tasks p s n es = flat_map (λ (w : ℕ × ℕ × ℕ). tasks_from p w.0 w.1 w.2) (take n (filter_map (element_search s) es))

-- it is not the task t
abbrev pub is_other : Task → Task → Bool
is_other t x = not (same_task x t)

-- the tasks, by the constraint that is active on top
abbrev pub tasks_by : Program → State → Option ((ℕ × ℕ × ℕ) × List Element) → List Task
tasks_by p s None = []
tasks_by p s (Some t) = gathered MAX_TASKS [] (tasks_from p t.0.0 t.0.1 t.0.2 ++ below_top p s t.1 ++ guest_tasks p s (guest_in t.1))
