-- What telling that two terms are equal comes to.
use Rattle.std.specs.Prelude.{◌≡◌, ◌<◌, ℕ, List, Some, None, length}
use Rattle.chr_bind.specs.declared.bindings.Unified.{Unified}
use Rattle.chr_bind.specs.declared.bindings.Unified.TheVariants.{Same, Bound, Clash}
use Rattle.chr_semantics.specs.Changes.{rebound}
use Rattle.chr_semantics.specs.Mgu.{mgu}
use Rattle.chr_semantics.specs.Tree.{Tree}
use Rattle.chr_base.specs.Model.{BaseModel}

-- they stood for one term already, or they do by new bindings, which touch the constraints with these identities, or nothing makes them equal
abbrev pub IsTold : Tree → Tree → List ℕ → Unified → BaseModel → BaseModel → Type 0
IsTold t u ids Same old new = (mgu old.subst t u ≡ Some old.subst) × (new ≡ old)
IsTold t u ids Bound old new = (mgu old.subst t u ≡ Some new.subst) × (length old.subst < length new.subst) × (new ≡ record old { store = rebound old.store ids; subst = new.subst })
IsTold t u ids Clash old new = (mgu old.subst t u ≡ None) × (new ≡ old)
