-- Firings in a map.
use Rattle.std.specs.Prelude.{ℕ, Bool, cond, List, [], ◌∷◌, is_some}
use Rattle.std.specs.declared.cmp.Ordering.{Ordering}
use Rattle.chr_map.specs.Order.{value_of}
use Rattle.chr_semantics.specs.Search.{History}
use Rattle.chr_store.specs.contracts.fired.FiredOrd.TheImpl.{ghosts}
use Rattle.chr_store.specs.declared.fired.Fired.{Fired}
use Rattle.chr_find.specs.declared.firings.Firings.{Firings}

abbrev pub fired_cmp : Fired → Fired → Ordering
fired_cmp = ghosts.cmp

abbrev pub firing : ℕ → List ℕ → Fired
firing r ids = record { rule = r; ids = ids }

abbrev pub is_in : List (Fired × Unit {0}) → Fired → Bool
is_in all f = is_some (value_of fired_cmp all f)

-- the rule has fired with the identities
abbrev pub fired_in : {A : Type 0} → Firings A → ℕ → List ℕ → Bool
fired_in f r ids = is_in f.all (firing r ids)

-- firings as the definitions have them
abbrev pub history_in : List (Fired × Unit {0}) → List (Fired × Unit {0}) → History
history_in all [] = []
history_in all (e ∷ es) = cond (is_in all e.0) ((e.0.rule, e.0.ids) ∷ history_in all es) (history_in all es)

abbrev pub history_of : List (Fired × Unit {0}) → History
history_of all = history_in all all
