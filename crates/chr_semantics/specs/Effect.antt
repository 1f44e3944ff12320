-- A run made again from what its transitions change, without its rules (this project's own).
use Rattle.std.specs.Prelude.{◌≡◌, ℕ, ◌+◌, Bool, true, false, cond, not, ◌&&◌, ◌||◌, ◌==◌, nat_lt, List, [], ◌∷◌, ◌++◌, Option, None, Some, drop, filter, filter_map, map, option_map}
use Rattle.std.specs.List.{list_any}
use Rattle.chr_semantics.specs.Footprint.{IsSound}
use Rattle.chr_semantics.specs.Match.{Row}
use Rattle.chr_semantics.specs.Mgu.{vars}
use Rattle.chr_semantics.specs.Program.{Goal, Program, constraint, tell, evaluate, compare, fail}
use Rattle.chr_semantics.specs.Search.{Found, atom_of, firing, has_number, ids_of, no_firing, no_occurrence}
use Rattle.chr_semantics.specs.State.{Element, State, Status, active, done, failed, faulted, goal, known, running, with_stack}
use Rattle.chr_semantics.specs.Step.{body_of, search_at, solve, step, with_status}
use Rattle.chr_semantics.specs.Subst.{Subst, apply, binds_var, instances, value_at}
use Rattle.chr_semantics.specs.Tree.{Tree, is_ground_trees}

-- What a transition changes.
pub data Effect : Type 0 where
  -- the goal on top, a constraint, enters the store and is active
  enters : Effect
  -- the constraint on top is active again
  wakes : Effect
  -- the active constraint goes on to its next occurrence
  passes : Effect
  -- it leaves the stack
  leaves : Effect
  -- A rule fires with a list, of which so many are kept. Goals come in the place of the active constraint, or above it where it stays.
  fires : ℕ → ℕ → List ℕ → List Element → Bool → Effect
  -- a built-in holds: variables get values, and constraints of the store wake
  binds : Subst → List ℕ → Effect
  -- the run ends here
  ends : Status → Effect

-- ---- what it makes of a state

-- the variables have these values in all that is there
abbrev pub valued : Subst → Subst → Subst
valued new s = new ++ map (λ (p : ℕ × Tree). (p.0, apply new p.1)) s

-- constraints of the store, as they wait on the stack
abbrev pub waiting : List Row → List ℕ → List Element
waiting rows ids = filter_map (λ i. option_map (known i) (atom_of rows i)) ids

abbrev pub effect_on_top : State → Element → List Element → Effect → State
effect_on_top s (goal (constraint a)) rest enters = with_stack (record s { store = s.store ++ (s.next_id, a) ∷ []; next_id = s.next_id + 1 }) (active s.next_id 1 a ∷ rest)
effect_on_top s (known i a) rest wakes = with_stack s (active i 1 a ∷ rest)
effect_on_top s (active i j a) rest passes = with_stack s (active i (j + 1) a ∷ rest)
effect_on_top s e rest leaves = with_stack s rest
effect_on_top s e rest (fires r kept ids goals stays) =
    with_stack (record s {
      store = filter (λ (row : Row). not (has_number (drop kept ids) row.0)) s.store;
      history = s.history ++ (r, ids) ∷ [];
    }) (goals ++ cond stays (e ∷ rest) rest)
effect_on_top s e rest (binds new ids) = with_stack (record s { subst = valued new s.subst }) (waiting s.store ids ++ rest)
effect_on_top s e rest (ends w) = with_status s w
effect_on_top s e rest c = s

abbrev pub effect_on : State → List Element → Effect → State
effect_on s [] c = s
effect_on s (e ∷ es) c = effect_on_top s e es c

abbrev pub with_effect : State → Effect → State
with_effect s c = effect_on s s.stack c

-- ---- what the next transition changes

-- each of the variables has its value
abbrev pub AreValues : Subst → Subst → Type 0
AreValues t [] = Unit {0}
AreValues t (p ∷ new) = (value_at t p.0 ≡ p.1) × AreValues t new

-- the variables that t binds and s does not, each with its value
pub record AreGiven (s t new : Subst) : Type 0 where
  pub those : (x : ℕ) → binds_var new x ≡ (not (binds_var s x) && binds_var t x)
  pub values : AreValues t new

-- the constraints that a Solve wakes
abbrev pub woken_ids : State → List ℕ
woken_ids s = ids_of (filter (λ (r : Row). not (is_ground_trees (instances (value_at s.subst) r.1.args))) s.store)

-- a built-in was told in the state s, and t came of it
abbrev pub IsTold : State → State → Status → Effect → Type 0
IsTold s t running c = (new : Subst) × (c ≡ binds new (woken_ids s)) × AreGiven s.subst t.subst new
IsTold s t done c = (new : Subst) × (c ≡ binds new (woken_ids s)) × AreGiven s.subst t.subst new
IsTold s t failed c = c ≡ ends failed
IsTold s t (faulted f) c = c ≡ ends (faulted f)

abbrev pub IsGoalEffect : State → List Element → Goal → Effect → Type 0
IsGoalEffect s rest (constraint a) c = c ≡ enters
IsGoalEffect s rest (tell t u) c = let n = solve s rest (tell t u) in IsTold s n n.status c
IsGoalEffect s rest (evaluate x t) c = let n = solve s rest (evaluate x t) in IsTold s n n.status c
IsGoalEffect s rest (compare o t u) c = let n = solve s rest (compare o t u) in IsTold s n n.status c
IsGoalEffect s rest fail c = c ≡ ends failed

abbrev pub found_effect : State → Found → Effect
found_effect s no_occurrence = leaves
found_effect s no_firing = passes
found_effect s (firing r rule place t) = fires r rule.kept (ids_of t) (body_of rule t s.next_var) (nat_lt place rule.kept)

abbrev pub IsTopEffect : Program → State → List Element → Effect → Type 0
IsTopEffect p s [] c = ⊥
IsTopEffect p s (goal g ∷ rest) c = IsGoalEffect s rest g c
IsTopEffect p s (known i a ∷ rest) c = c ≡ wakes
IsTopEffect p s (active i j a ∷ rest) c = c ≡ found_effect s (search_at p s i j a)

abbrev pub IsEffect : Program → State → Effect → Type 0
IsEffect p s c = (s.status ≡ running) × IsTopEffect p s s.stack c

-- the two sides of a built-in
abbrev pub sides : Goal → List Tree
sides (constraint a) = []
sides (tell t u) = t ∷ u ∷ []
sides (evaluate x t) = x ∷ t ∷ []
sides (compare o t u) = t ∷ u ∷ []
sides fail = []

-- the variables without a value in terms
abbrev pub open_in : Subst → List Tree → List ℕ
open_in s [] = []
open_in s (t ∷ ts) = vars (apply s t) ++ open_in s ts

-- the run goes on, or is done
abbrev pub is_held : Status → Bool
is_held running = true
is_held done = true
is_held failed = false
is_held (faulted f) = false

-- ---- the laws

-- both show the same: only how the bindings are written may differ, and which variable is the next one
pub record IsShownAs (s t : State) : Type 0 where
  pub stack : s.stack ≡ t.stack
  pub store : s.store ≡ t.store
  pub values : (x : ℕ) → value_at s.subst x ≡ value_at t.subst x
  pub history : s.history ≡ t.history
  pub next_id : s.next_id ≡ t.next_id
  pub status : s.status ≡ t.status

-- What the next transition changes makes the next state; and it gives values to no variable but those without one in the sides of the
-- built-in on top.
pub record EffectLaw : Type 0 where
  pub again : (p : Program) (s : State) → IsSound s → (c : Effect) → IsEffect p s c → IsShownAs (with_effect s c) (step p s)
  pub only : (s : State) (rest : List Element) (g : Goal) (x : ℕ) → binds_var (solve s rest g).subst x ≡ true → (binds_var s.subst x || list_any (λ (v : ℕ). v == x) (open_in s.subst (sides g))) ≡ true
