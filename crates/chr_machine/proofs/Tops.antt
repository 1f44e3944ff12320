-- What stands on top of a stack, and what the definitions make of it.
use Rattle.std.proofs.Common.{◌≡◌, ◌∙◌, ◌+◌, ◌-◌, ◌<◌, ◌≤◌, ℕ, suc, Bool, true, false, cond, List, [], ◌∷◌, ◌++◌, Option, Some, None, ap, arith, get_or, length, refl, sym, take}
use Rattle.std.specs.Prelude.{option_map}
use Rattle.std.proofs.lemmas.List.{take_more}
use Rattle.chr_semantics.specs.Program.{Atom, Program, constraint}
use Rattle.chr_semantics.specs.State.{Element, State, active, goal, known}
use Rattle.chr_semantics.specs.Tasks.{Task, below_top, element_search, guest_in, guest_tasks, lives, tasks_at, tasks_from, tasks_top}
use Rattle.chr_semantics.specs.declared.limits.TheConstants.{MAX_TASKS}
use Rattle.chr_trace.specs.State.{elem_view, stack_view}
use Rattle.chr_trace.specs.declared.state.Elem.{Elem}
use Rattle.chr_trace.proofs.Stacks.{stack_put}
use Rattle.chr_machine.specs.Gathering.{active_of, gathered, tasks_by, waiting_tasks, waiting_view}
use Rattle.chr_machine.specs.declared.tasks.Waiting.{Waiting}
use Rattle.chr_machine.proofs.Gathered.{gathered_parts, gathered_tasks, waiting_first, waiting_passed}

-- the last of the first n elements is on top of those before it
module _ {A : Type 0} (es : List (Elem A)) (n : ℕ) (e : Elem A) (some : 0 < n) (within : n ≤ length es) (at : e ≡ get_or es (n - 1) e) where
  pub stack_from : stack_view (take n es) ≡ elem_view e ∷ stack_view (take (n - 1) es)
  stack_from =
      let back : n ≡ (n - 1) + 1 = omega (arith, some) in
      let lt : n - 1 < length es = omega (arith, some, within) in
      ap (λ k. stack_view (take k es)) back ∙ (ap stack_view (take_more es (n - 1) e lt ∙ ap (λ x. take (n - 1) es ++ x ∷ []) (sym at)) ∙ stack_put (take (n - 1) es) e)

  -- where it tells a constraint, that is the guest
  pub guest_here : (a : Atom) → elem_view e ≡ goal (constraint a) → guest_in (stack_view (take n es)) ≡ Some a
  guest_here a is = ap guest_in stack_from ∙ ap (λ x. guest_in (x ∷ stack_view (take (n - 1) es))) is

  -- where it tells none, the guest is looked for below
  pub guest_below : ((xs : List Element) → guest_in (elem_view e ∷ xs) ≡ guest_in xs) → guest_in (stack_view (take n es)) ≡ guest_in (stack_view (take (n - 1) es))
  guest_below passed = ap guest_in stack_from ∙ passed (stack_view (take (n - 1) es))

  -- m elements are still wanted, and ts was gathered
  module _ (p : Program) (s : State) (k m : ℕ) (ts : List Task) where
    -- where it waits, its tasks are gathered, and one element fewer is wanted
    pub waiting_here : (w : ℕ × ℕ × ℕ) (us : List Task) → 0 < m → element_search s (elem_view e) ≡ Some w → us ≡ gathered k ts (tasks_from p w.0 w.1 w.2) → gathered k ts (waiting_tasks p s m (stack_view (take n es))) ≡ gathered k us (waiting_tasks p s (m - 1) (stack_view (take (n - 1) es)))
    waiting_here w us more is put =
        let more_is : m ≡ suc (m - 1) = omega (arith, more) in
        let rest = waiting_tasks p s (m - 1) (stack_view (take (n - 1) es)) in
        ap (λ xs. gathered k ts (waiting_tasks p s m xs)) stack_from
        ∙ (ap (λ i. gathered k ts (waiting_tasks p s i (elem_view e ∷ stack_view (take (n - 1) es)))) more_is
        ∙ (ap (gathered k ts) (waiting_first p s (m - 1) (elem_view e) (stack_view (take (n - 1) es)) w is)
        ∙ (gathered_parts k ts (tasks_from p w.0 w.1 w.2) rest ∙ ap (λ xs. gathered k xs rest) (sym put))))

    -- where it does not wait, it is passed over
    pub waiting_below : element_search s (elem_view e) ≡ None → gathered k ts (waiting_tasks p s m (stack_view (take n es))) ≡ gathered k ts (waiting_tasks p s m (stack_view (take (n - 1) es)))
    waiting_below is = ap (λ xs. gathered k ts (waiting_tasks p s m xs)) stack_from ∙ ap (gathered k ts) (waiting_passed p s m (elem_view e) (stack_view (take (n - 1) es)) is)

-- a constraint that was found to live is the one that is active on top
pub living_on_top : (s : State) (i j : ℕ) (a : Atom) (es : List Element) (found : Option Waiting) (w : Waiting) → option_map waiting_view found ≡ cond (lives s i) (Some (a.sym, i, j)) None → found ≡ Some w → Some (waiting_view w, es) ≡ active_of s (active i j a ∷ es)
living_on_top s i j a es found w lives_so is =
    ap (λ (o : Option Waiting). option_map over (option_map waiting_view o)) (sym is) ∙ (ap (option_map over) lives_so ∙ by (lives s i))
  where
    over : ℕ × ℕ × ℕ → (ℕ × ℕ × ℕ) × List Element
    over t = (t, es)

    by : (b : Bool) → option_map over (cond b (Some (a.sym, i, j)) None) ≡ cond b (Some ((a.sym, i, j), es)) None
    by true = refl
    by false = refl

-- the tasks are those of the constraint that is active on top, and of the stack below it
pub tasks_are : (p : Program) (s : State) (es : List Element) → tasks_top p s es ≡ tasks_by p s (active_of s es)
tasks_are p s [] = refl
tasks_are p s (goal g ∷ es) = refl
tasks_are p s (known i a ∷ es) = refl
tasks_are p s (active i j a ∷ es) = by (lives s i)
  where
    by : (b : Bool) → cond b (tasks_at p s i j a es) [] ≡ tasks_by p s (cond b (Some ((a.sym, i, j), es)) None)
    by true = sym (gathered_tasks MAX_TASKS (tasks_from p a.sym i j ++ below_top p s es ++ guest_tasks p s (guest_in es)))
    by false = refl
