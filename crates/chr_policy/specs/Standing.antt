-- Where a run stands by the events so far.
use Rattle.std.specs.Prelude.{◌≡◌, ◌≤◌, ◌<◌, ℕ, ◌+◌, Bool, true, false, cond, not, ◌&&◌, List, [], ◌∷◌, Option, Some, None, is_some, length}
use Rattle.std.specs.List.{fold}
use Rattle.chr_semantics.specs.Policy.{Stage, first_stage, has_steps_alone, is_place, may_follow, missed_places, with_event}
use Rattle.chr_semantics.specs.Program.{Program}
use Rattle.chr_semantics.specs.Schedule.{Event, Progress, first_refusal, no_progress, progress}
use Rattle.chr_semantics.specs.State.{State}
use Rattle.chr_semantics.specs.declared.limits.TheConstants.{MAX_ROUNDS}

-- how far the policy has come
abbrev pub stage_from : Program → State → Stage → List Event → Stage
stage_from p q g es = fold (with_event p q) g es

abbrev pub stage_of : Program → State → List Event → Stage
stage_of p q es = stage_from p q first_stage es

-- each event may follow those before it
abbrev pub all_follow : Program → State → Stage → List Event → Bool
all_follow p q g [] = true
all_follow p q g (e ∷ es) = may_follow p q g e && all_follow p q (with_event p q g e) es

-- No event is refused, and each may follow. The last Step led to this progress; whether a Publish came since, and how many places were
-- missed so far.
pub record Keeps (p : Program) (q : State) (es : List Event) (stepped : Progress) (published : Bool) (missed : ℕ) : Type 0 where
  pub allowed : first_refusal p q no_progress 0 es ≡ None
  pub follow : all_follow p q first_stage es ≡ true
  pub stepped_is : (stage_of p q es).stepped ≡ stepped
  pub published_is : (stage_of p q es).published ≡ published
  pub missed_are : missed_places p q first_stage es ≡ missed

-- A run with a number of workers, of which a number of calls were refused (`skipped`), right after a Step, or at the start. Below the last round the refused
-- calls are the missed places; with no worker there are none.
pub record Rests (p : Program) (q : State) (workers skipped : ℕ) (es : List Event) : Type 0 where
  pub missed : ℕ
  pub keeps : Keeps p q es (progress p q es) false missed
  pub none_arrived : (stage_of p q es).arrived ≡ false
  pub alone : workers ≡ 0 → (has_steps_alone es ≡ true) × (skipped ≡ 0)
  pub few : (workers ≡ 0 → ⊥) → missed ≤ skipped
  pub all : (workers ≡ 0 → ⊥) → length (progress p q es).rounds < MAX_ROUNDS → skipped ≡ missed

-- The same right before the next Step, after what comes between: where that misses a place too, it is counted.
pub record IsReady (p : Program) (q : State) (workers skipped : ℕ) (stepped : Progress) (es : List Event) : Type 0 where
  pub missed : ℕ
  pub published : Bool
  pub keeps : Keeps p q es stepped published missed
  pub alone : workers ≡ 0 → (has_steps_alone es ≡ true) × (skipped ≡ 0)
  pub few : (workers ≡ 0 → ⊥) → missed + cond (not published && is_place p q stepped) 1 0 ≤ skipped
  pub all : (workers ≡ 0 → ⊥) → length stepped.rounds < MAX_ROUNDS → skipped ≡ missed + cond (not published && is_place p q stepped) 1 0
