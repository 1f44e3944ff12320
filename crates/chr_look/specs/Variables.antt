-- The greatest variable of some terms.
use Rattle.std.specs.Prelude.{ℕ, ◌+◌, Option, Some, None}

-- one past the greatest, and 0 where there is none
abbrev pub past_by : Option ℕ → ℕ
past_by None = 0
past_by (Some x) = x + 1
