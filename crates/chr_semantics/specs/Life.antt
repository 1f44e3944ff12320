-- The life of a constraint in a run, and that of a rule with a list of constraints (this project's own).
use Rattle.std.specs.Prelude.{ℕ, zero, suc, ◌+◌, ◌-◌, Bool, false, cond, not, ◌&&◌, ◌==◌, nat_le, nat_lt, List, [], ◌∷◌, ◌++◌, Option, Some, None, length, option_and_then, option_map, option_to_list, slice_get}
use Rattle.std.specs.List.{list_all}
use Rattle.chr_semantics.specs.Program.{Occurrence, Program, Rule, occurrence}
use Rattle.chr_semantics.specs.State.{Element, State, active, goal, known}
use Rattle.chr_semantics.specs.Step.{after, is_running, step}
use Rattle.chr_semantics.specs.Tasks.{lives}
use Rattle.chr_semantics.specs.Verdict.{Verdict, is_could_fire, verdict}

-- the least number of transitions, at most n, after which the state passes a test
abbrev pub first_after : Program → (State → Bool) → State → ℕ → Option ℕ
first_after p test s zero = cond (test s) (Some 0) None
first_after p test s (suc n) = cond (test s) (Some 0) (option_map (λ k. k + 1) (first_after p test (step p s) n))

-- the transition that brings the constraint of an identity, of the first n
abbrev pub came : Program → State → ℕ → ℕ → Option ℕ
came p s n i = first_after p (λ t. nat_lt i t.next_id) s n

-- the transition that takes it out
abbrev pub gone : Program → State → ℕ → ℕ → Option ℕ
gone p s n i = first_after p (λ t. nat_lt i t.next_id && not (lives t i)) s n

-- the entry that the k-th transition adds to the history: its firing, with the number of the rule
abbrev pub firing_at : Program → State → ℕ → Option (ℕ × List ℕ)
firing_at p s k = slice_get (after p s k).history (length (after p s (k - 1)).history)

-- the constraint that the next transition makes active again
abbrev pub wakes_on_top : List Element → Option ℕ
wakes_on_top [] = None
wakes_on_top (goal g ∷ es) = None
wakes_on_top (known i a ∷ es) = Some i
wakes_on_top (active i j a ∷ es) = None

abbrev pub wakes : State → ℕ → Bool
wakes s i = is_running s.status && is_number i (wakes_on_top s.stack)
  where
    is_number : ℕ → Option ℕ → Bool
    is_number i None = false
    is_number i (Some k) = k == i

-- those of the first n transitions that make the constraint active again
abbrev pub woken : Program → State → ℕ → ℕ → List ℕ
woken p s zero i = []
woken p s (suc n) i = woken p s n i ++ cond (wakes (after p s n) i) (suc n ∷ []) []

-- the firings of the first n transitions, each with its transition
abbrev pub firings : Program → State → ℕ → List (ℕ × ℕ × List ℕ)
firings p s zero = []
firings p s (suc n) = firings p s n ++ option_to_list (option_map (λ (f : ℕ × List ℕ). (suc n, f.0, f.1)) (firing_at p s (suc n)))

-- the firing that took the constraint out
abbrev pub taken_by : Program → State → ℕ → ℕ → Option (ℕ × List ℕ)
taken_by p s n i = option_and_then (firing_at p s) (gone p s n i)

-- the last of the first n transitions that was made with a stack no higher than h
abbrev pub last_no_higher : Program → State → ℕ → ℕ → Option ℕ
last_no_higher p s h zero = None
last_no_higher p s h (suc n) = cond (nat_le (length (after p s n).stack) h) (Some (suc n)) (last_no_higher p s h n)

-- the transition that put the goal on the stack that the k-th transition takes off: the last one before that was made with a stack no
-- higher; there is none for a goal of the query
abbrev pub origin : Program → State → ℕ → Option ℕ
origin p s zero = None
origin p s (suc k) = last_no_higher p s (length (after p s k).stack) k

-- the firing that made the constraint
abbrev pub made_by : Program → State → ℕ → ℕ → Option (ℕ × List ℕ)
made_by p s n i = option_and_then (firing_at p s) (option_and_then (origin p s) (came p s n i))

-- the constraint i is the one of the list for the head of an occurrence of the rule r
abbrev pub is_its_head : ℕ → List ℕ → ℕ → Option Occurrence → Bool
is_its_head r ids i None = false
is_its_head r ids i (Some o) = o.number == r && is_at i (slice_get ids o.place)
  where
    is_at : ℕ → Option ℕ → Bool
    is_at i None = false
    is_at i (Some k) = k == i

abbrev pub looks_at_top : Program → ℕ → List ℕ → List Element → Option ℕ
looks_at_top p r ids [] = None
looks_at_top p r ids (goal g ∷ es) = None
looks_at_top p r ids (known i a ∷ es) = None
looks_at_top p r ids (active i j a ∷ es) = cond (is_its_head r ids i (occurrence p a.sym j)) (Some i) None

-- the constraint whose search, in the next transition, is for the rule r with the list, all of which lives
abbrev pub looks_for : Program → State → ℕ → List ℕ → Option ℕ
looks_for p s r ids = cond (is_running s.status && list_all (lives s) ids) (looks_at_top p r ids s.stack) None

-- a search for the rule with a list: its transition, the constraint that is active, and the verdict there
abbrev pub look_in : Program → State → ℕ → ℕ → Rule → List ℕ → Option (ℕ × ℕ × Verdict)
look_in p t k r rule ids = option_map (λ i. (k, i, verdict t r rule ids)) (looks_for p t r ids)

-- those of the first n transitions
abbrev pub looks : Program → State → ℕ → ℕ → Rule → List ℕ → List (ℕ × ℕ × Verdict)
looks p s zero r rule ids = []
looks p s (suc n) r rule ids = looks p s n r rule ids ++ option_to_list (look_in p (after p s n) (suc n) r rule ids)

-- the first of n transitions after which the list could fire the rule
abbrev pub could_from : Program → State → ℕ → ℕ → Rule → List ℕ → Option ℕ
could_from p s n r rule ids = first_after p (λ t. is_could_fire (verdict t r rule ids)) s n
