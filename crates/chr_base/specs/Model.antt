-- What contracts see of a base.
use Rattle.std.specs.Prelude.{ℕ, List, map}
use Rattle.chr_semantics.specs.Changes.{Entries, Store}
use Rattle.chr_semantics.specs.Match.{Row}
use Rattle.chr_semantics.specs.State.{resolved_atom}
use Rattle.chr_semantics.specs.Subst.{Subst}

-- the store and the entries with their stamps, the bindings, and the next variable
pub record BaseModel : Type 0 where
  pub store : Store
  pub entries : Entries
  pub subst : Subst
  pub next_var : ℕ

-- the constraints with the bindings applied
abbrev pub rows_of : BaseModel → List Row
rows_of b = map (λ (r : Row). (r.0, resolved_atom b.subst r.1)) b.store.rows
