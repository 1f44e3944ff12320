-- What contracts see of the identities of a key.
use Rattle.std.specs.Prelude.{[], ◌∷◌}
use Rattle.chr_store.specs.IdsValue.{IdsValue}
use Rattle.chr_store.specs.declared.key_ids.Held.{Held}
use Rattle.chr_store.specs.declared.key_ids.Held.TheVariants.{Nothing, One, Many}

-- one more fits in place of nothing
abbrev pub held_view : {A : Type 0} → Held A → IdsValue
held_view Nothing = record { ids = []; spare = 1 }
held_view (One i) = record { ids = i.0 ∷ []; spare = 0 }
held_view (Many ids) = ids
