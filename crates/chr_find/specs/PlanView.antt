-- The indexes of a symbol.
use Rattle.std.specs.Prelude.{ℕ, Bool, true, false, ◌==◌, List, Option, Some, None, slice_get}
use Rattle.std.specs.declared.vec.Vec.{Vec}
use Rattle.chr_find.specs.declared.plan.Lookup.{Lookup}
use Rattle.chr_find.specs.declared.plan.Lookup.TheVariants.{Position, Symbol}
use Rattle.chr_find.specs.declared.plan.Plan.{Plan}

-- it is that index
abbrev pub is_lookup : Lookup → Lookup → Bool
is_lookup Symbol Symbol = true
is_lookup Symbol (Position q) = false
is_lookup (Position p) Symbol = false
is_lookup (Position p) (Position q) = q == p

module _ {A : Type 0} where
  abbrev pub lookups_or : List Lookup → Option (Vec Lookup A) → List Lookup
  lookups_or others None = others
  lookups_or others (Some ps) = ps.items

  abbrev pub lookups_of : Plan A → ℕ → List Lookup
  lookups_of p f = lookups_or p.others.items (slice_get p.lookups.items f)
