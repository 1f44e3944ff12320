-- What stands on a stack, and what becomes of its top.
use Rattle.std.specs.Prelude.{ℕ, List, [], ◌∷◌}
use Rattle.chr_semantics.specs.Program.{Goal, constraint, tell, evaluate, compare, fail}
use Rattle.chr_semantics.specs.State.{Element, goal, known, active}

-- a constraint that is active on top is so at its occurrence j
abbrev pub moved_to : ℕ → List Element → List Element
moved_to j [] = []
moved_to j (goal g ∷ es) = goal g ∷ es
moved_to j (known i a ∷ es) = known i a ∷ es
moved_to j (active i k a ∷ es) = active i j a ∷ es

-- the goal is no constraint
abbrev pub IsBuiltIn : Goal → Type 0
IsBuiltIn (constraint a) = ⊥
IsBuiltIn (tell t u) = Unit {0}
IsBuiltIn (evaluate t u) = Unit {0}
IsBuiltIn (compare c t u) = Unit {0}
IsBuiltIn fail = Unit {0}

-- such a goal is on top
abbrev pub HasBuiltIn : List Element → Type 0
HasBuiltIn [] = ⊥
HasBuiltIn (goal g ∷ es) = IsBuiltIn g
HasBuiltIn (known i a ∷ es) = ⊥
HasBuiltIn (active i j a ∷ es) = ⊥

-- an active constraint is
abbrev pub HasActive : List Element → Type 0
HasActive [] = ⊥
HasActive (goal g ∷ es) = ⊥
HasActive (known i a ∷ es) = ⊥
HasActive (active i j a ∷ es) = Unit {0}
