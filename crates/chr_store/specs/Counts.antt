-- Stamps by number.
use Rattle.std.specs.Prelude.{◌≡◌, ℕ, ◌≤◌, true, All, Bool, List, Option, Some, None, is_some, slice_get}
use Rattle.chr_semantics.specs.Match.{Row}
use Rattle.chr_store.specs.declared.stamps.Stamp.{Stamp}

abbrev pub count_in : Option Stamp → ℕ
count_in None = 0
count_in (Some s) = s.count

abbrev pub last_in : Option Stamp → ℕ
last_in None = 0
last_in (Some s) = s.last

abbrev pub has_stamp : List Stamp → ℕ → Bool
has_stamp stamps n = is_some (slice_get stamps n)

-- how many calls raised the stamp of a number, and the last of them
abbrev pub count_at : List Stamp → ℕ → ℕ
count_at stamps n = count_in (slice_get stamps n)

abbrev pub last_at : List Stamp → ℕ → ℕ
last_at stamps n = last_in (slice_get stamps n)

-- calls are counted from 1, and each raises a stamp once at most
abbrev pub AreCounted : List Stamp → Type 0
AreCounted stamps = (n : ℕ) → count_at stamps n ≤ last_at stamps n

-- no stamp was raised by a later call
abbrev pub AreUpTo : List Stamp → ℕ → Type 0
AreUpTo stamps calls = (n : ℕ) → last_at stamps n ≤ calls

-- the symbol of each row has a stamp
abbrev pub AreStamped : List Stamp → List Row → Type 0
AreStamped stamps rows = All (λ (r : Row). has_stamp stamps r.1.sym ≡ true) rows
