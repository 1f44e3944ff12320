-- Histories that a search can not tell apart.
use Rattle.std.specs.Prelude.{◌≡◌, ℕ, Bool, true, List}
use Rattle.std.specs.List.{list_all}
use Rattle.chr_semantics.specs.Search.{History, fired_before}

-- they have the same firings of constraints that live
abbrev pub IsLike : (ℕ → Bool) → History → History → Type 0
IsLike lives k h = (r : ℕ) (ids : List ℕ) → list_all lives ids ≡ true → fired_before h r ids ≡ fired_before k r ids
