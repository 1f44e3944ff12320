-- That the tickets of a core's rounds show the snapshots of their states.
use Rattle.std.specs.Prelude.{◌≡◌, ◌==◌, ℕ, List, Option, Some, length, map, position, slice_get, unwrap_or}
use Rattle.chr_semantics.specs.Program.{Program}
use Rattle.chr_semantics.specs.Snapshot.{snapshot_of}
use Rattle.chr_semantics.specs.State.{State}
use Rattle.chr_semantics.specs.Step.{after}
use Rattle.chr_find.specs.SnapshotView.{IsSnapshot}
use Rattle.chr_find.specs.declared.snapshot.Snapshot.{Snapshot}
use Rattle.chr_laws.specs.Rounds.{Round, ats}

-- the transitions before a round
abbrev pub at_in : List Round → ℕ → ℕ
at_in rounds i = unwrap_or (slice_get (ats rounds) i) 0

-- there is a snapshot for each round, and it is of the state after the transitions before the round
pub record AreShown {A : Type 0} (p : Program) (q : State) (rounds : List Round) (shots : List (Snapshot A)) : Type 0 where
  pub same : length shots ≡ length rounds
  pub shown : (i : ℕ) (shot : Snapshot A) → slice_get shots i ≡ Some shot → IsSnapshot shot (snapshot_of p (after p q (at_in rounds i)))

-- the numbers of places are those of the rounds whose snapshots stand there
abbrev pub AreNumbered : (ℕ → Option ℕ) → List ℕ → Type 0
AreNumbered number places = (y : ℕ) → number y ≡ position (λ x. x == y) places
