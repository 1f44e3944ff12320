-- Ascending lists of identities.
use Rattle.std.specs.Prelude.{ℕ, ◌==◌, Bool, cond, not, List, filter}
use Rattle.std.specs.BTreeSet.{insert_key}
use Rattle.std.specs.Ordering.{nat_cmp}

-- with the identity i, or without it
abbrev pub ids_set : ℕ → Bool → List ℕ → List ℕ
ids_set i b ids = cond b (insert_key nat_cmp ids i) (filter (λ j. not (j == i)) ids)
