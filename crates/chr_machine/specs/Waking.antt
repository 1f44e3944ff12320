-- The elements of constraints.
use Rattle.std.specs.Prelude.{ℕ, List, [], ◌∷◌, Option, Some, None, flat_map}
use Rattle.chr_semantics.specs.Match.{Row}
use Rattle.chr_semantics.specs.Program.{Atom}
use Rattle.chr_semantics.specs.Search.{atom_of}
use Rattle.chr_semantics.specs.State.{Element, known}
use Rattle.chr_store.specs.declared.id.Id.{Id}

-- the element of the constraint of an identity, where it lives
abbrev pub element_as : ℕ → Option Atom → List Element
element_as i None = []
element_as i (Some a) = known i a ∷ []

abbrev pub element_at : List Row → ℕ → List Element
element_at rows i = element_as i (atom_of rows i)

abbrev pub elements_at : List Row → List Id → List Element
elements_at rows ids = flat_map (λ (i : Id). element_at rows i.0) ids
