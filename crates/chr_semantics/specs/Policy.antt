-- What a run with workers does with its events: where it publishes, and what follows what (this project's own).
use Rattle.std.specs.Prelude.{◌≡◌, ◌<◌, ◌≤◌, ℕ, ◌+◌, Bool, true, false, cond, not, ◌&&◌, ◌||◌, nat_le, List, [], ◌∷◌, Option, Some, None, is_some, length}
use Rattle.chr_semantics.specs.Program.{Program}
use Rattle.chr_semantics.specs.State.{State}
use Rattle.chr_semantics.specs.Step.{after, steps}
use Rattle.chr_semantics.specs.Tasks.{Task, needed_task, tasks}
use Rattle.chr_semantics.specs.Schedule.{Counts, Event, publish, arrive, move, Progress, counts, first_refusal, no_progress, is_served, next, progress, state_of}
use Rattle.chr_semantics.specs.declared.limits.TheConstants.{MAX_ROUNDS}

-- the next Step needs a search that no kept answer serves, and there are two tasks or more
abbrev pub is_place_for : Program → State → Progress → Option Task → Bool
is_place_for p q g None = false
is_place_for p q g (Some t) = not (is_served p q g t) && nat_le 2 (length (tasks p (after p q g.steps)))

-- a place to publish: so it is right after a Step, or at the start
abbrev pub is_place : Program → State → Progress → Bool
is_place p q g = is_place_for p q g (needed_task p (after p q g.steps))

-- How far a schedule has come, and how far it had come right after its last Step; whether a Publish, and whether an Arrive, came since.
pub record Stage : Type 0 where
  pub now : Progress
  pub stepped : Progress
  pub published : Bool
  pub arrived : Bool

abbrev pub first_stage : Stage
first_stage = record { now = no_progress; stepped = no_progress; published = false; arrived = false }

abbrev pub with_event : Program → State → Stage → Event → Stage
with_event p q g publish = record g { now = next p q g.now publish; published = true }
with_event p q g (arrive r x) = record g { now = next p q g.now (arrive r x); arrived = true }
with_event p q g move = let h = next p q g.now move in record { now = h; stepped = h; published = false; arrived = false }

-- A Publish comes right after a Step, or at the start, at a place to publish. After an Arrive come further ones, and then a Step that
-- needs a search.
abbrev pub may_follow : Program → State → Stage → Event → Bool
may_follow p q g publish = not g.published && (not g.arrived && is_place p q g.stepped)
may_follow p q g (arrive r x) = true
may_follow p q g move = not g.arrived || is_some (needed_task p (after p q g.now.steps))

-- each event may follow, and the schedule ends with a Step, if it has one
abbrev pub keeps_policy : Program → State → Stage → List Event → Bool
keeps_policy p q g [] = not (g.published || g.arrived)
keeps_policy p q g (e ∷ es) = may_follow p q g e && keeps_policy p q (with_event p q g e) es

-- the place before a Step has no Publish
abbrev pub is_missed : Program → State → Stage → Event → Bool
is_missed p q g publish = false
is_missed p q g (arrive r x) = false
is_missed p q g move = not g.published && is_place p q g.stepped

abbrev pub missed_places : Program → State → Stage → List Event → ℕ
missed_places p q g [] = 0
missed_places p q g (e ∷ es) = cond (is_missed p q g e) 1 0 + missed_places p q (with_event p q g e) es

abbrev pub has_steps_alone : List Event → Bool
has_steps_alone [] = true
has_steps_alone (publish ∷ es) = false
has_steps_alone (arrive r x ∷ es) = false
has_steps_alone (move ∷ es) = has_steps_alone es

-- The schedule of a run from the start q with a number of workers, of which `skipped` calls of tasks and publish were refused: each missed a
-- place. After the last round a run looks for no place, and each search counts as such a call.
pub record IsPolicy (p : Program) (q : State) (workers skipped : ℕ) (es : List Event) : Type 0 where
  pub alone : workers ≡ 0 → (has_steps_alone es ≡ true) × (skipped ≡ 0)
  pub keeps : keeps_policy p q first_stage es ≡ true
  pub missed : (workers ≡ 0 → ⊥) → missed_places p q first_stage es ≤ skipped
  pub all_missed : (workers ≡ 0 → ⊥) → length (progress p q es).rounds < MAX_ROUNDS → skipped ≡ missed_places p q first_stage es
  pub few : skipped ≤ (progress p q es).steps

-- What ties a run of n transitions to its schedule: no event of it is refused, its Steps are these transitions, none is idle, and the counts
-- are the schedule's.
pub record IsTied (p : Program) (q : State) (n : ℕ) (c : Counts) (es : List Event) : Type 0 where
  pub none_refused : first_refusal p q no_progress 0 es ≡ None
  pub same_state : state_of p q es ≡ after p q n
  pub none_idle : (progress p q es).steps ≡ steps p q n
  pub counts_are : c ≡ counts p q es
