-- A schedule that is performed event by event: a Step of a run that has ended is passed over.
use Rattle.std.specs.Prelude.{◌≡◌, ◌≤◌, ℕ, cond, List, [], ◌∷◌, ◌++◌, length, Option, Some, None}
use Rattle.chr_semantics.specs.Names.{Names}
use Rattle.chr_semantics.specs.Outcome.{outcome_after}
use Rattle.chr_semantics.specs.Program.{Program, Query}
use Rattle.chr_semantics.specs.Schedule.{Event, Refusal, arrive, first_refusal, is_idle, no_progress, performed, progress, publish, refusal}
use Rattle.chr_semantics.specs.State.{State, start}

-- the first of two refusals
abbrev pub or_later : Option Refusal → Option Refusal → Option Refusal
or_later (Some r) later = Some r
or_later None later = later

-- What has been performed of the first events of a schedule tells all that the next one asks of them.
pub record ReplayLaw : Type 0 where
  -- with one event more
  pub more :
      (p : Program) (q : State) (es : List Event) (e : Event)
      → performed p q (es ++ e ∷ []) ≡ cond (is_idle p q (progress p q es) e) (performed p q es) (performed p q es ++ e ∷ [])
  -- no more Steps are performed than there are
  pub few : (p : Program) (r : Query) (es : List Event) → (let q = start r in (progress p q (performed p q es)).steps ≤ (progress p q es).steps)
  -- a Publish or an arrival is refused as it is after the events that were performed
  pub publishes :
      (p : Program) (r : Query) (es : List Event) (k : ℕ)
      → (let q = start r in refusal p q (progress p q es) k publish ≡ refusal p q (progress p q (performed p q es)) k publish)
  pub arrives :
      (p : Program) (r : Query) (es : List Event) (k i x : ℕ)
      → (let q = start r in refusal p q (progress p q es) k (arrive i x) ≡ refusal p q (progress p q (performed p q es)) k (arrive i x))
  -- the run hands out the same
  pub outcome :
      (names : Names) (p : Program) (r : Query) (es : List Event)
      → (let q = start r in outcome_after names p r (progress p q (performed p q es)).steps ≡ outcome_after names p r (progress p q es).steps)
  -- the first refusal of a schedule in two parts
  pub first :
      (p : Program) (q : State) (es fs : List Event)
      → first_refusal p q no_progress 0 (es ++ fs) ≡ or_later (first_refusal p q no_progress 0 es) (first_refusal p q (progress p q es) (length es) fs)
