-- What stands after changes.
use Rattle.std.specs.Prelude.{List, [], ◌∷◌}

-- after one change after the other
abbrev pub after_all : {N X Y : Type 0} → (N → (X → Y) → X → Y) → List N → (X → Y) → X → Y
after_all step [] f x = f x
after_all step (n ∷ ns) f x = after_all step ns (step n f) x
