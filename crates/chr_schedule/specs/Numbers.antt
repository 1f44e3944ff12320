-- The numbers that digits are.
use Rattle.std.specs.Prelude.{ℕ, cond, nat_le, List, Option, Some, None}
use Rattle.chr_semantics.specs.Tokens.{digits_value}
use Rattle.chr_semantics.specs.ScheduleText.{is_number}
use Rattle.chr_semantics.specs.declared.limits.TheConstants.{MAX_SCHEDULE_NUMBER}

-- the value of digits, unless it is too large
abbrev pub value_of : List ℕ → Option ℕ
value_of w = cond (nat_le (digits_value 0 w) MAX_SCHEDULE_NUMBER) (Some (digits_value 0 w)) None

-- the same of digits that are a number
abbrev pub number_of : List ℕ → Option ℕ
number_of w = cond (is_number w) (Some (digits_value 0 w)) None
