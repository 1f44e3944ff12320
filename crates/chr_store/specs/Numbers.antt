-- Identities as numbers.
use Rattle.std.specs.Prelude.{ℕ, List, map}
use Rattle.chr_store.specs.declared.id.Id.{Id}

abbrev pub numbers : List Id → List ℕ
numbers ids = map (λ (i : Id). i.0) ids
