-- How the firings that snapshots lend stand to the history.
use Rattle.std.specs.Prelude.{◌≡◌, ◌==◌, ◌&&◌, ◌||◌, ℕ, Bool, true, List, Option, None, Some}
use Rattle.std.specs.List.{list_all}
use Rattle.chr_semantics.specs.Changes.{Entries, Store}
use Rattle.chr_semantics.specs.Search.{fired_before, same_ids}
use Rattle.chr_store.specs.declared.fired.Fired.{Fired}
use Rattle.chr_find.specs.PendingFiringsView.{HasRoom, noted_in}
use Rattle.chr_find.specs.declared.pending_firings.PendingFirings.{PendingFirings}
use Rattle.chr_base.specs.Agreement.{is_not_dead}

-- of constraints that are not dead, these are what the history has
abbrev pub AreLent : Store → Entries → (ℕ → List ℕ → Bool) → Type 0
AreLent m h fired = (r : ℕ) (ids : List ℕ) → list_all (is_not_dead m) ids ≡ true → fired r ids ≡ fired_before h.list r ids

module _ {A : Type 0} where
  -- so it is where firings are kept
  abbrev pub Lends : Store → Entries → Option (PendingFirings A) → Type 0
  Lends m h f = (g : PendingFirings A) → f ≡ Some g → AreLent m h (noted_in g)

  -- there is room for a note where firings are kept
  abbrev pub HasPlace : Option (PendingFirings A) → Type 0
  HasPlace None = Unit {0}
  HasPlace (Some f) = HasRoom 1 f

  -- the same firings
  abbrev pub AreAlike : Option (PendingFirings A) → Option (PendingFirings A) → Type 0
  AreAlike None None = Unit {0}
  AreAlike None (Some g) = ⊥
  AreAlike (Some f) None = ⊥
  AreAlike (Some f) (Some g) = (r : ℕ) (ids : List ℕ) → noted_in g r ids ≡ noted_in f r ids

  -- the firings with one more
  abbrev pub IsNoted : Fired → Option (PendingFirings A) → Option (PendingFirings A) → Type 0
  IsNoted fired None None = Unit {0}
  IsNoted fired None (Some g) = ⊥
  IsNoted fired (Some f) None = ⊥
  IsNoted fired (Some f) (Some g) = (r : ℕ) (ids : List ℕ) → noted_in g r ids ≡ (noted_in f r ids || r == fired.rule && same_ids ids fired.ids)
