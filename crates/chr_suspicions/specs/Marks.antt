-- Flags that are set.
use Rattle.std.specs.Prelude.{◌≡◌, ◌<◌, ◌||◌, ℕ, Bool, List, length}
use Rattle.chr_rules.specs.RuleView.{flag_at}

-- the new flags are the old ones, and those that pass the test are set
abbrev pub Marks : List Bool → (ℕ → Bool) → List Bool → Type 0
Marks old p new = (f : ℕ) → f < length old → flag_at new f ≡ (flag_at old f || p f)
