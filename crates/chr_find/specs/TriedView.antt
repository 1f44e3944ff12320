-- What a search looked at, in the definitions.
use Rattle.std.specs.Prelude.{◌≡◌, ℕ}
use Rattle.chr_semantics.specs.Profile.{Count}
use Rattle.chr_semantics.specs.Trail.{partial_lists}
use Rattle.chr_semantics.specs.Tries.{tried_tuples}
use Rattle.chr_find.specs.declared.tried.Tried.{Tried}

-- both counts are those of a search
abbrev pub AreTried : (Count → ℕ) → Tried → Type 0
AreTried f tried = (tried.lists ≡ f tried_tuples) × (tried.partial ≡ f partial_lists)
