-- The examples of what transitions change.
use Rattle.std.specs.Prelude.{◌≡◌, ℕ, []}
use Rattle.chr_semantics.specs.Effect.{Effect, IsEffect, with_effect}
use Rattle.chr_semantics.specs.State.{start}
use Rattle.chr_semantics.specs.Step.{after, step}
use Rattle.chr_semantics.specs.Examples.Example.{Example}

-- the transition after the first n changes this
abbrev pub Changes : Example → ℕ → Effect → Type 0
Changes e n c = IsEffect e.program (after e.program (start e.query) n) c

-- and the change makes the very next state
abbrev pub Makes : Example → ℕ → Effect → Type 0
Makes e n c = let s = after e.program (start e.query) n in with_effect s c ≡ step e.program s
