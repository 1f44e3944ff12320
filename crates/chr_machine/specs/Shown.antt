-- The text that is kept of a constraint.
use Rattle.std.specs.Prelude.{◌≡◌, ℕ, List, Some}
use Rattle.chr_semantics.specs.Names.{Names, VarNames}
use Rattle.chr_semantics.specs.Match.{Row}
use Rattle.chr_semantics.specs.Program.{Atom}
use Rattle.chr_semantics.specs.Search.{atom_of}
use Rattle.chr_semantics.specs.State.{resolved_atom}
use Rattle.chr_semantics.specs.Text.{known_text}
use Rattle.chr_base.specs.Model.{BaseModel}

-- the constraint, if it lives
abbrev pub IsOf : List Row → ℕ → Atom → Type 0
IsOf rows i a = (b : Atom) → atom_of rows i ≡ Some b → b ≡ a

-- the constraint with the bindings applied, if it lives
abbrev pub IsResolvedOf : BaseModel → ℕ → Atom → Type 0
IsResolvedOf base i a = (b : Atom) → atom_of base.store.rows i ≡ Some b → resolved_atom base.subst b ≡ a

-- it is that of the constraint with the identity, if that lives
abbrev pub IsShownIn : Names → VarNames → BaseModel → ℕ → List ℕ → Type 0
IsShownIn names vars base i text = (a : Atom) → atom_of base.store.rows i ≡ Some a → text ≡ known_text names vars (resolved_atom base.subst a) i
