-- The search of the next transition, by the top of the stack.
use Rattle.std.specs.Prelude.{ℕ, List, [], ◌∷◌, None, Option, Some}
use Rattle.chr_semantics.specs.Profile.{Count, counted_at}
use Rattle.chr_semantics.specs.Program.{Program, occurrence}
use Rattle.chr_semantics.specs.State.{Element, State, active, goal, known, rows}

-- the constraint that is active, its symbol, and the number of its occurrence
abbrev pub searching : List Element → Option (ℕ × ℕ × ℕ)
searching [] = None
searching (goal g ∷ es) = None
searching (known i a ∷ es) = None
searching (active i j a ∷ es) = Some (i, a.sym, j)

-- how many lists its search looks at
abbrev pub counted_by : Count → Program → State → Option (ℕ × ℕ × ℕ) → ℕ
counted_by f p s None = 0
counted_by f p s (Some w) = counted_at f (rows s) s.history w.0 (occurrence p w.1 w.2)
