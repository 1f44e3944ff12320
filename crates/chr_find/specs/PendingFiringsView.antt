-- What has fired, as when all that is noted is entered.
use Rattle.std.specs.Prelude.{◌≡◌, ◌≤◌, ℕ, Bool, true, cond, List}
use Rattle.chr_keys.specs.Changes.{after_all}
use Rattle.chr_store.specs.FiredLaws.{same_fired}
use Rattle.chr_store.specs.declared.fired.Fired.{Fired}
use Rattle.chr_find.specs.Firings.{firing, is_in}
use Rattle.chr_find.specs.declared.pending_firings.PendingFirings.{PendingFirings}

-- the firings with one more
abbrev pub with_firing : Fired → (Fired → Bool) → Fired → Bool
with_firing g f x = cond (same_fired x g) true (f x)

module _ {A : Type 0} where
  abbrev pub noted_firing : PendingFirings A → Fired → Bool
  noted_firing n x = after_all with_firing n.pending.left (is_in n.firings.all) x

  -- the rule has fired with the identities
  abbrev pub noted_in : PendingFirings A → ℕ → List ℕ → Bool
  noted_in n r ids = noted_firing n (firing r ids)

  -- all is entered
  abbrev pub IsSettled : PendingFirings A → Type 0
  IsSettled n = (x : Fired) → noted_firing n x ≡ is_in n.firings.all x

  -- there is room for this number of further notes
  abbrev pub HasRoom : ℕ → PendingFirings A → Type 0
  HasRoom k n = k ≤ n.pending.room
