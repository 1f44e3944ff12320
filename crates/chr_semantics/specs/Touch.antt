-- What a transition touches, and the footprint of an occurrence: what a search can depend on (this project's own).
use Rattle.std.specs.Prelude.{ℕ, Bool, false, not, ◌&&◌, ◌==◌, nat_lt, List, [], ◌∷◌, map, drop, Option, Some, None, length}
use Rattle.std.specs.List.{list_any}
use Rattle.chr_semantics.specs.Tree.{is_ground_trees}
use Rattle.chr_semantics.specs.Subst.{instances, value_at}
use Rattle.chr_semantics.specs.Program.{Atom, Goal, constraint, tell, evaluate, compare, fail, Head, Program, Occurrence, occurrence}
use Rattle.chr_semantics.specs.Match.{Row}
use Rattle.chr_semantics.specs.Search.{ids_of, has_number, Found, no_occurrence, no_firing, firing, atom_of}
use Rattle.chr_semantics.specs.State.{Element, goal, known, active, Status, running, done, failed, faulted, State}
use Rattle.chr_semantics.specs.Step.{solve, search_at, count_steps}

-- what can be touched: a symbol, or a rule by its number
pub data Mark : Type 0 where
  symbol : ℕ → Mark
  rule : ℕ → Mark

-- whether the store has a constraint of the symbol that is not ground
abbrev pub has_open : State → ℕ → Bool
has_open s f = list_any (λ (r : Row). r.1.sym == f && not (is_ground_trees (instances (value_at s.subst) r.1.args))) s.store

-- whether a variable is bound from the one state to the other
abbrev pub binds : State → State → Bool
binds s t = nat_lt (length s.subst) (length t.subst)

-- a built-in touches by what it binds
abbrev pub solve_touches : State → State → Mark → Bool
solve_touches s t (symbol f) = binds s t && has_open s f
solve_touches s t (rule r) = false

abbrev pub goal_touches : State → List Element → Goal → Mark → Bool
goal_touches s rest (constraint a) (symbol f) = a.sym == f
goal_touches s rest (constraint a) (rule r) = false
goal_touches s rest (tell t u) x = solve_touches s (solve s rest (tell t u)) x
goal_touches s rest (evaluate t u) x = solve_touches s (solve s rest (evaluate t u)) x
goal_touches s rest (compare c t u) x = false
goal_touches s rest fail x = false

-- whether the store has a constraint of the symbol among these identities
abbrev pub has_among : State → List ℕ → ℕ → Bool
has_among s ids f = list_any (λ (r : Row). r.1.sym == f && has_number ids r.0) s.store

-- a firing touches its rule, and the symbols of what it removes
abbrev pub found_touches : State → Found → Mark → Bool
found_touches s no_occurrence x = false
found_touches s no_firing x = false
found_touches s (firing n r place t) (symbol f) = has_among s (drop r.kept (ids_of t)) f
found_touches s (firing n r place t) (rule m) = n == m

abbrev pub touches_top : Program → State → List Element → Mark → Bool
touches_top p s [] x = false
touches_top p s (goal g ∷ rest) x = goal_touches s rest g x
touches_top p s (known i a ∷ rest) x = false
touches_top p s (active i j a ∷ rest) x = found_touches s (search_at p s i j a) x

abbrev pub touches_at : Program → State → Status → Mark → Bool
touches_at p s running x = touches_top p s s.stack x
touches_at p s done x = false
touches_at p s failed x = false
touches_at p s (faulted f) x = false

-- whether the step from this state touches the symbol or rule
abbrev pub touches : Program → State → Mark → Bool
touches p s x = touches_at p s s.status x

-- how many of the first n steps touch x
abbrev pub touched : Program → State → ℕ → Mark → ℕ
touched p s n x = count_steps p (λ t. touches p t x) s n

-- the rule of the occurrence, and the symbols of all its heads
abbrev pub footprint_of : Option Occurrence → List Mark
footprint_of None = []
footprint_of (Some o) = rule o.number ∷ map (λ (h : Head). symbol h.atom.sym) o.rule.heads

abbrev pub footprint_at : Program → ℕ → Option Atom → List Mark
footprint_at p j None = []
footprint_at p j (Some a) = footprint_of (occurrence p a.sym j)

-- of occurrence j of the constraint i of the store
abbrev pub footprint : Program → State → ℕ → ℕ → List Mark
footprint p s i j = footprint_at p j (atom_of s.store i)

-- how many of the first n steps touch one of the marks
abbrev pub touched_any : Program → State → ℕ → List Mark → ℕ
touched_any p s n marks = count_steps p (λ t. list_any (touches p t) marks) s n
