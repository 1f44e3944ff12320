-- Tasks: the searches that are worth making ahead, and the guest (this project's own).
use Rattle.std.specs.Prelude.{ℕ, zero, suc, ◌+◌, ◌-◌, Bool, true, false, cond, ◌&&◌, ◌==◌, List, [], ◌∷◌, ◌++◌, map, Option, Some, None, is_some, length, take}
use Rattle.std.specs.List.{list_any, filter_map, flat_map}
use Rattle.chr_semantics.specs.Program.{Atom, constraint, tell, evaluate, compare, fail, Program, occurrences, occurrence}
use Rattle.chr_semantics.specs.Search.{atom_of}
use Rattle.chr_semantics.specs.State.{Element, goal, known, active, State}
use Rattle.chr_semantics.specs.declared.limits.TheConstants.{MAX_TASKS, MAX_WAITING_ELEMENTS}

-- an identity and the number of an occurrence
abbrev pub Task : Type 0
Task = ℕ × ℕ

abbrev pub same_task : Task → Task → Bool
same_task a b = a.0 == b.0 && a.1 == b.1

abbrev pub lives : State → ℕ → Bool
lives s i = is_some (atom_of s.store i)

-- n numbers from k on
abbrev pub numbers_from : ℕ → ℕ → List ℕ
numbers_from k zero = []
numbers_from k (suc n) = k ∷ numbers_from (k + 1) n

-- the occurrences of the symbol f from j to the last, for the constraint i
abbrev pub tasks_from : Program → ℕ → ℕ → ℕ → List Task
tasks_from p f i j = map (λ k. (i, k)) (numbers_from j (length (occurrences p f) + 1 - j))

-- the topmost constraint that is not yet active
abbrev pub guest_in : List Element → Option Atom
guest_in [] = None
guest_in (goal (constraint a) ∷ es) = Some a
guest_in (goal (tell t u) ∷ es) = guest_in es
guest_in (goal (evaluate t u) ∷ es) = guest_in es
guest_in (goal (compare c t u) ∷ es) = guest_in es
guest_in (goal fail ∷ es) = guest_in es
guest_in (known i a ∷ es) = guest_in es
guest_in (active i j a ∷ es) = guest_in es

-- what the element searches for, where it is identified or active and lives
abbrev pub element_search : State → Element → Option (ℕ × ℕ × ℕ)
element_search s (goal g) = None
element_search s (known i a) = cond (lives s i) (Some (a.sym, i, 1)) None
element_search s (active i j a) = cond (lives s i) (Some (a.sym, i, j)) None

abbrev pub guest_tasks : Program → State → Option Atom → List Task
guest_tasks p s None = []
guest_tasks p s (Some a) = tasks_from p a.sym s.next_id 1

-- each task once, where it comes first
abbrev pub without_repeats : List Task → List Task → List Task
without_repeats seen [] = []
without_repeats seen (t ∷ ts) = elim (list_any (same_task t) seen) [ true ↦ without_repeats seen ts | false ↦ t ∷ without_repeats (t ∷ seen) ts ]

abbrev pub below_top : Program → State → List Element → List Task
below_top p s es = flat_map (λ (w : ℕ × ℕ × ℕ). tasks_from p w.0 w.1 w.2) (take MAX_WAITING_ELEMENTS (filter_map (element_search s) es))

abbrev pub tasks_at : Program → State → ℕ → ℕ → Atom → List Element → List Task
tasks_at p s i j a es = take MAX_TASKS (without_repeats [] (tasks_from p a.sym i j ++ below_top p s es ++ guest_tasks p s (guest_in es)))

-- by the top of the stack
abbrev pub tasks_top : Program → State → List Element → List Task
tasks_top p s [] = []
tasks_top p s (goal g ∷ es) = []
tasks_top p s (known i a ∷ es) = []
tasks_top p s (active i j a ∷ es) = cond (lives s i) (tasks_at p s i j a es) []

abbrev pub tasks : Program → State → List Task
tasks p s = tasks_top p s s.stack

abbrev pub guest_top : State → List Element → Option Atom
guest_top s [] = None
guest_top s (goal g ∷ es) = None
guest_top s (known i a ∷ es) = None
guest_top s (active i j a ∷ es) = cond (lives s i) (guest_in es) None

abbrev pub guest : State → Option Atom
guest s = guest_top s s.stack

-- the search that the next step needs
abbrev pub needed_task_top : Program → State → List Element → Option Task
needed_task_top p s [] = None
needed_task_top p s (goal g ∷ es) = None
needed_task_top p s (known i a ∷ es) = None
needed_task_top p s (active i j a ∷ es) = cond (lives s i && is_some (occurrence p a.sym j)) (Some (i, j)) None

abbrev pub needed_task : Program → State → Option Task
needed_task p s = needed_task_top p s s.stack
