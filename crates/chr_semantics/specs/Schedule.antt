-- Schedules of answers that come from elsewhere, and the counts of their events (this project's own).
use Rattle.std.specs.Prelude.{◌≡◌, ℕ, ◌+◌, Bool, true, false, cond, not, ◌&&◌, ◌==◌, nat_lt, ◌≤◌, ◌<◌, List, [], ◌∷◌, ◌++◌, Option, Some, None, slice_get, length, option_map, position, replicate}
use Rattle.std.specs.List.{list_any, list_all, fold}
use Rattle.chr_semantics.specs.Program.{Atom, Program, Query}
use Rattle.chr_semantics.specs.Tree.{same_all}
use Rattle.chr_semantics.specs.Search.{atom_of}
use Rattle.chr_semantics.specs.State.{State, resolved_atom, rows, start}
use Rattle.chr_semantics.specs.Step.{after, is_running}
use Rattle.chr_semantics.specs.Touch.{touched, touched_any, footprint}
use Rattle.chr_semantics.specs.Tasks.{Task, same_task, tasks, guest, needed_task}
use Rattle.chr_semantics.specs.declared.limits.TheConstants.{KEPT_ROUNDS, MAX_ROUNDS, MAX_TRANSITIONS}

-- a Publish, the arrival of the answer to a task (round, index), or a Step
pub data Event : Type 0 where
  publish : Event
  arrive : ℕ → ℕ → Event
  move : Event

-- How far a schedule has come: its Steps; for each Publish, which makes the next round from 0, the Steps before it; the kept arrivals
-- (round, index); and the numbers of late, double, used and own events. The state is the one after these Steps, whatever arrives.
pub record Progress : Type 0 where
  pub steps : ℕ
  pub rounds : List ℕ
  pub kept : List (ℕ × ℕ)
  pub late : ℕ
  pub double : ℕ
  pub used : ℕ
  pub own : ℕ

abbrev pub no_progress : Progress
no_progress = record { steps = 0; rounds = []; kept = []; late = 0; double = 0; used = 0; own = 0 }

abbrev pub same_atom : Atom → Atom → Bool
same_atom a b = a.sym == b.sym && same_all a.args b.args

-- the goals are there and equal
abbrev pub same_goal : Option Atom → Option Atom → Bool
same_goal None b = false
same_goal (Some a) None = false
same_goal (Some a) (Some b) = same_atom a b

-- an answer to the task (i, j) of the state after k steps serves the state after n: nothing has touched the footprint since
abbrev pub serves_row : Program → State → ℕ → ℕ → Task → Bool
serves_row p q k n t = list_all (λ x. touched p q k x == touched p q n x) (footprint p (after p q n) t.0 t.1)

-- an answer to a guest's task: its goal is the same, and the Activate alone has touched the footprint since
abbrev pub serves_guest : Program → State → ℕ → ℕ → Task → Bool
serves_guest p q k n t =
    let marks = footprint p (after p q n) t.0 t.1 in
    same_goal (option_map (resolved_atom (after p q k).subst) (guest (after p q k))) (atom_of (rows (after p q n)) t.0)
    && touched_any p q k marks + 1 == touched_any p q n marks

abbrev pub serves : Program → State → ℕ → ℕ → Task → Bool
serves p q k n t = cond (t.0 == (after p q k).next_id) (serves_guest p q k n t) (serves_row p q k n t)

abbrev pub task_serves : Program → State → ℕ → ℕ → Task → Option Task → Bool
task_serves p q k n t None = false
task_serves p q k n t (Some u) = same_task t u && serves p q k n t

-- whether the answer of that index to that round, which was published after k steps, serves
abbrev pub answer_serves : Program → State → ℕ → Task → ℕ → Option ℕ → Bool
answer_serves p q n t x None = false
answer_serves p q n t x (Some k) = task_serves p q k n t (slice_get (tasks p (after p q k)) x)

-- whether a kept answer serves the search t of the next Step
abbrev pub is_served : Program → State → Progress → Task → Bool
is_served p q g t = list_any (λ (a : ℕ × ℕ). answer_serves p q g.steps t a.1 (slice_get g.rounds a.0)) g.kept

abbrev pub with_step : Program → State → Progress → Option Task → Progress
with_step p q g None = record g { steps = g.steps + 1 }
with_step p q g (Some t) = elim (is_served p q g t) [ true ↦ record g { steps = g.steps + 1; used = g.used + 1 } | false ↦ record g { steps = g.steps + 1; own = g.own + 1 } ]

abbrev pub is_late : Progress → ℕ → Bool
is_late g r = nat_lt (r + KEPT_ROUNDS) (length g.rounds)

-- What becomes of an answer, with its round: it is kept; it comes late, or again; or no round has the place that it comes with.
pub data Took : Type 0 where
  kept : ℕ → Took
  late : ℕ → Took
  double : ℕ → Took
  stranger : Took

-- the answer to the task x of round r
abbrev pub took : Progress → ℕ → ℕ → Took
took g r x = cond (is_late g r) (late r) (cond (list_any (same_task (r, x)) g.kept) (double r) (kept r))

abbrev pub took_from : Progress → ℕ → Option ℕ → Took
took_from g x None = stranger
took_from g x (Some r) = took g r x

-- an answer with the place of its snapshot; the rounds published theirs at these places
abbrev pub took_at : Progress → List ℕ → ℕ → ℕ → Took
took_at g places place x = took_from g x (position (λ y. y == place) places)

abbrev pub with_took : Progress → ℕ → Took → Progress
with_took g x (kept r) = record g { kept = g.kept ++ (r, x) ∷ [] }
with_took g x (late r) = record g { late = g.late + 1 }
with_took g x (double r) = record g { double = g.double + 1 }
with_took g x stranger = g

abbrev pub next : Program → State → Progress → Event → Progress
next p q g publish = record g { rounds = g.rounds ++ g.steps ∷ [] }
next p q g (arrive r x) = with_took g x (took g r x)
next p q g move = with_step p q g (needed_task p (after p q g.steps))

-- the schedule from the start q of a query
abbrev pub progress : Program → State → List Event → Progress
progress p q = fold (next p q) no_progress

-- its state: the one after its Steps
abbrev pub state_of : Program → State → List Event → State
state_of p q es = after p q (progress p q es).steps

-- a schedule with one event more
abbrev pub AppendedLaw : Type 0
AppendedLaw = (p : Program) (q : State) (es : List Event) (e : Event) → progress p q (es ++ e ∷ []) ≡ next p q (progress p q es) e

pub record Counts : Type 0 where
  pub kept : ℕ
  pub late : ℕ
  pub double : ℕ
  pub used : ℕ
  pub own : ℕ

abbrev pub counts_of : Progress → Counts
counts_of g = record { kept = length g.kept; late = g.late; double = g.double; used = g.used; own = g.own }

-- the counts of a schedule from the start q of a query
abbrev pub counts : Program → State → List Event → Counts
counts p q es = counts_of (progress p q es)

pub data Refusal : Type 0 where
  too_many_rounds : ℕ → Refusal
  too_many_steps : ℕ → Refusal
  unknown_round : ℕ → Refusal
  unknown_task : ℕ → Refusal

abbrev pub task_refusal : ℕ → ℕ → List Task → Option Refusal
task_refusal at_place x ts = cond (nat_lt x (length ts)) None (Some (unknown_task at_place))

abbrev pub round_refusal : Program → State → ℕ → ℕ → Option ℕ → Option Refusal
round_refusal p q at_place x None = Some (unknown_round at_place)
round_refusal p q at_place x (Some k) = task_refusal at_place x (tasks p (after p q k))

-- why the event, at that place of the schedule, is refused
abbrev pub refusal : Program → State → Progress → ℕ → Event → Option Refusal
refusal p q g at_place publish = cond (nat_lt (length g.rounds) MAX_ROUNDS) None (Some (too_many_rounds at_place))
refusal p q g at_place (arrive r x) = round_refusal p q at_place x (slice_get g.rounds r)
refusal p q g at_place move = cond (nat_lt g.steps MAX_TRANSITIONS) None (Some (too_many_steps at_place))

-- the first refusal of a schedule
abbrev pub first_refusal : Program → State → Progress → ℕ → List Event → Option Refusal
first_refusal p q g k [] = None
first_refusal p q g k (e ∷ es) = elim (refusal p q g k e) [ Some r ↦ Some r | None ↦ first_refusal p q (next p q g e) (k + 1) es ]

-- At the limits a Publish or a Step is refused after every progress, and below them it is not; so a schedule of Publishes or Steps alone
-- is refused at the first beyond.
pub record LimitsLaw : Type 0 where
  pub no_round : (p : Program) (q : State) (g : Progress) (k : ℕ) → MAX_ROUNDS ≤ length g.rounds → refusal p q g k publish ≡ Some (too_many_rounds k)
  pub a_round : (p : Program) (q : State) (g : Progress) (k : ℕ) → length g.rounds < MAX_ROUNDS → refusal p q g k publish ≡ None
  pub no_step : (p : Program) (q : State) (g : Progress) (k : ℕ) → MAX_TRANSITIONS ≤ g.steps → refusal p q g k move ≡ Some (too_many_steps k)
  pub a_step : (p : Program) (q : State) (g : Progress) (k : ℕ) → g.steps < MAX_TRANSITIONS → refusal p q g k move ≡ None
  pub rounds : (p : Program) (q : State) (n : ℕ) → first_refusal p q no_progress 0 (replicate n publish) ≡ cond (nat_lt MAX_ROUNDS n) (Some (too_many_rounds MAX_ROUNDS)) None
  pub moves : (p : Program) (q : State) (n : ℕ) → first_refusal p q no_progress 0 (replicate n move) ≡ cond (nat_lt MAX_TRANSITIONS n) (Some (too_many_steps MAX_TRANSITIONS)) None

-- a Step of a run that has ended is no transition
abbrev pub is_idle : Program → State → Progress → Event → Bool
is_idle p q g publish = false
is_idle p q g (arrive r x) = false
is_idle p q g move = not (is_running (after p q g.steps).status)

-- the events of a schedule without these
abbrev pub without_idle : Program → State → Progress → List Event → List Event
without_idle p q g [] = []
without_idle p q g (e ∷ es) = cond (is_idle p q g e) (without_idle p q (next p q g e) es) (e ∷ without_idle p q (next p q g e) es)

abbrev pub performed : Program → State → List Event → List Event
performed p q = without_idle p q no_progress

-- a schedule of a query's run comes to the same state and counts without them
pub record IdleLaw : Type 0 where
  pub state : (p : Program) (r : Query) (es : List Event) → (let q = start r in state_of p q (performed p q es) ≡ state_of p q es)
  pub counts_same : (p : Program) (r : Query) (es : List Event) → (let q = start r in counts p q (performed p q es) ≡ counts p q es)
