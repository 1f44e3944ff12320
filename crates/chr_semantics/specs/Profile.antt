-- What a run costs: the searches at each head of each rule, and its transitions by kind (this project's own). Rules and heads are numbered
-- from 0.
use Rattle.std.specs.Prelude.{ℕ, zero, suc, ◌+◌, ◌-◌, Bool, false, true, cond, not, ◌&&◌, ◌||◌, ◌==◌, nat_lt, List, [], ◌∷◌, Option, Some, None, length, option_and_then, option_map}
use Rattle.chr_semantics.specs.Life.{firing_at, origin}
use Rattle.chr_semantics.specs.Match.{Row}
use Rattle.chr_semantics.specs.Program.{Atom, Goal, Occurrence, Program, Rule, constraint, tell, evaluate, compare, fail, occurrence}
use Rattle.chr_semantics.specs.Search.{Found, History, atom_of, firing, no_firing, no_occurrence}
use Rattle.chr_semantics.specs.State.{Element, State, active, goal, known, rows}
use Rattle.chr_semantics.specs.Step.{after, is_running, search_at, step}
use Rattle.chr_semantics.specs.Trail.{partial_lists}
use Rattle.chr_semantics.specs.Tries.{capped, tried_tuples}

-- ---- searches

-- where the active constraint on top searches: the rule and the head of its occurrence
abbrev pub searched_on_top : Program → List Element → Option (ℕ × ℕ)
searched_on_top p [] = None
searched_on_top p (goal g ∷ es) = None
searched_on_top p (known i a ∷ es) = None
searched_on_top p (active i j a ∷ es) = option_map (λ (o : Occurrence). (o.number, o.place)) (occurrence p a.sym j)

-- how many lists a search looks at for a head of a rule where a constraint stands: `tried_tuples`, or `partial_lists`
abbrev pub Count : Type 0
Count = List Row → History → ℕ → Rule → ℕ → Row → ℕ

-- as far as numbers of 64 bits go, at the occurrence, by the goal of the constraint
abbrev pub counted_of : Count → List Row → History → ℕ → Occurrence → Option Atom → ℕ
counted_of f rows h i o None = 0
counted_of f rows h i o (Some a) = capped (f rows h o.number o.rule o.place (i, a))

abbrev pub counted_at : Count → List Row → History → ℕ → Option Occurrence → ℕ
counted_at f rows h i None = 0
counted_at f rows h i (Some o) = counted_of f rows h i o (atom_of rows i)

abbrev pub counted_on_top : Count → Program → State → List Element → ℕ
counted_on_top f p s [] = 0
counted_on_top f p s (goal g ∷ es) = 0
counted_on_top f p s (known i a ∷ es) = 0
counted_on_top f p s (active i j a ∷ es) = counted_at f (rows s) s.history i (occurrence p a.sym j)

-- the next transition does
abbrev pub counted_next : Count → Program → State → ℕ
counted_next f p s = cond (is_running s.status) (counted_on_top f p s s.stack) 0

abbrev pub is_place : ℕ → ℕ → Option (ℕ × ℕ) → Bool
is_place r k None = false
is_place r k (Some o) = o.0 == r && o.1 == k

-- the next transition searches at the head k of the rule r
abbrev pub searches : Program → ℕ → ℕ → State → Bool
searches p r k s = is_running s.status && is_place r k (searched_on_top p s.stack)

-- and fires it
abbrev pub finds : Program → ℕ → ℕ → State → Bool
finds p r k s = searches p r k s && nat_lt (length s.history) (length (step p s).history)

-- how many lists it looks at there
abbrev pub counted : Count → Program → ℕ → ℕ → State → ℕ
counted f p r k s = cond (searches p r k s) (counted_next f p s) 0

-- ---- kinds of transitions

pub data Kind : Type 0 where
  solve : Kind
  activate : Kind
  reactivate : Kind
  drop : Kind
  simplify : Kind
  propagate : Kind
  default : Kind

abbrev pub kind_of_goal : Goal → Kind
kind_of_goal (constraint a) = activate
kind_of_goal (tell t u) = solve
kind_of_goal (evaluate t u) = solve
kind_of_goal (compare c t u) = solve
kind_of_goal fail = solve

abbrev pub kind_of_search : Found → Kind
kind_of_search no_occurrence = drop
kind_of_search no_firing = default
kind_of_search (firing r rule place t) = cond (nat_lt place rule.kept) propagate simplify

abbrev pub kind_on_top : Program → State → List Element → Option Kind
kind_on_top p s [] = None
kind_on_top p s (goal g ∷ es) = Some (kind_of_goal g)
kind_on_top p s (known i a ∷ es) = Some reactivate
kind_on_top p s (active i j a ∷ es) = Some (kind_of_search (search_at p s i j a))

-- the kind of the next transition, where the run goes on
abbrev pub kind_next : Program → State → Option Kind
kind_next p s = cond (is_running s.status) (kind_on_top p s s.stack) None

-- the kinds in an order
abbrev pub rank : Kind → ℕ
rank solve = 0
rank activate = 1
rank reactivate = 2
rank drop = 3
rank simplify = 4
rank propagate = 5
rank default = 6

abbrev pub same_kind : Kind → Kind → Bool
same_kind k l = rank k == rank l

abbrev pub is_kind : Kind → Option Kind → Bool
is_kind k None = false
is_kind k (Some l) = same_kind k l

-- ---- sums over a run

-- the sum over the first n transitions, each by how many were made before it
abbrev pub sum_to : (ℕ → ℕ) → ℕ → ℕ
sum_to f zero = 0
sum_to f (suc n) = sum_to f n + f n

abbrev pub times_to : (ℕ → Bool) → ℕ → ℕ
times_to test = sum_to (λ n. cond (test n) 1 0)

-- how often a head of a rule was searched at in the first n transitions, how often that fired the rule, how many complete lists were tried
-- there, and how many partial ones fitted
abbrev pub searches_in : Program → State → ℕ → ℕ → ℕ → ℕ
searches_in p s n r k = times_to (λ m. searches p r k (after p s m)) n

abbrev pub finds_in : Program → State → ℕ → ℕ → ℕ → ℕ
finds_in p s n r k = times_to (λ m. finds p r k (after p s m)) n

abbrev pub counted_in : Count → Program → State → ℕ → ℕ → ℕ → ℕ
counted_in f p s n r k = sum_to (λ m. counted f p r k (after p s m)) n

abbrev pub tries_in : Program → State → ℕ → ℕ → ℕ → ℕ
tries_in = counted_in tried_tuples

abbrev pub partial_in : Program → State → ℕ → ℕ → ℕ → ℕ
partial_in = counted_in partial_lists

-- how many of the first n transitions are of a kind
abbrev pub of_kind : Program → State → ℕ → Kind → ℕ
of_kind p s n k = times_to (λ m. is_kind k (kind_next p (after p s m))) n

-- ---- what woke

-- a constraint fires
abbrev pub is_firing : Option Kind → Bool
is_firing k = is_kind simplify k || is_kind propagate k

-- Of the first n transitions the last one that was made with a stack of the height h and was no Default: it made the constraint active again
-- that stands there, which has done nothing since.
abbrev pub is_woken_at : Program → State → ℕ → ℕ → Bool
is_woken_at p s zero h = false
is_woken_at p s (suc n) h =
    cond (length (after p s n).stack == h && not (is_kind default (kind_next p (after p s n)))) (is_kind reactivate (kind_next p (after p s n))) (is_woken_at p s n h)

-- the transition after the first n is the first firing of a constraint since it was made active again
abbrev pub fires_woken : Program → State → ℕ → Bool
fires_woken p s n = is_firing (kind_next p (after p s n)) && is_woken_at p s n (length (after p s n).stack)

-- the rule whose firing put the goal on the stack that the transition after the first n takes off; there is none for a goal of the query
abbrev pub goal_of : Program → State → ℕ → Option ℕ
goal_of p s n = option_map (λ (f : ℕ × List ℕ). f.0) (option_and_then (firing_at p s) (origin p s (suc n)))

abbrev pub same_rule : Option ℕ → Option ℕ → Bool
same_rule None None = true
same_rule None (Some r) = false
same_rule (Some r) None = false
same_rule (Some r) (Some q) = r == q

-- that transition is a Solve of a goal of the rule, or of the query
abbrev pub solves_for : Program → State → Option ℕ → ℕ → Bool
solves_for p s o n = is_kind solve (kind_next p (after p s n)) && same_rule o (goal_of p s n)

-- how many elements the next transition puts in the place of the top, where the run goes on: those that a Solve wakes
abbrev pub put_by : Program → State → ℕ
put_by p s = cond (is_running (step p s).status) (length (step p s).stack + 1 - length s.stack) 0

-- how many of the constraints that were made active again in the first n transitions fired
abbrev pub woken_fire_in : Program → State → ℕ → ℕ
woken_fire_in p s = times_to (fires_woken p s)

-- the Solves of the goals of a rule, or of the query, and how many constraints they woke
abbrev pub solves_in : Program → State → ℕ → Option ℕ → ℕ
solves_in p s n o = times_to (solves_for p s o) n

abbrev pub wakes_in : Program → State → ℕ → Option ℕ → ℕ
wakes_in p s n o = sum_to (λ k. cond (solves_for p s o k) (put_by p (after p s k)) 0) n
