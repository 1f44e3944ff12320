-- Which firings removed constraints.
use Rattle.std.specs.Prelude.{◌≡◌, ℕ, List, None, Option, get_or, length, option_and_then, slice_get}
use Rattle.chr_semantics.specs.Program.{Program}
use Rattle.chr_semantics.specs.Search.{History}
use Rattle.chr_look.specs.Logs.{removal}
use Rattle.chr_look.specs.declared.leaving.Removals.{Removals}

-- the place that is kept for an identity
abbrev pub place_at : List (Option ℕ) → ℕ → Option ℕ
place_at places i = get_or places i None

-- for each identity the place of the first firing that removes the constraint, by the transitions of the firings
abbrev pub AreRemovals : {A : Type 0} → Program → History → Removals A → Type 0
AreRemovals p h r = (i : ℕ) (ks : List ℕ) → length ks ≡ length h → removal p ks h i ≡ option_and_then (slice_get ks) (place_at r.places.items i)
