-- Where the list of partners so far stands to the list after which a search goes on.
use Rattle.std.specs.Prelude.{ℕ, Bool, true, cond, ◌==◌, nat_lt, min, List, [], ◌∷◌, filter}
use Rattle.std.specs.List.{list_any}
use Rattle.chr_semantics.specs.Cursor.{admitted, is_new, lies_ahead}
use Rattle.chr_semantics.specs.Join.{Joined}

-- nothing more is asked · equal so far to a list whose rest is given · before it, so that a new row is still wanted
pub data Threshold : Type 0 where
  free : Threshold
  on : List ℕ → Threshold
  before : Threshold

abbrev pub admits : ℕ → Threshold → List ℕ → Bool
admits from free t = true
admits from (on l) t = lies_ahead l from t
admits from before t = list_any (is_new from) t

-- after one more row
abbrev pub next_threshold : ℕ → Threshold → ℕ → Threshold
next_threshold from free c = free
next_threshold from (on []) c = free
next_threshold from (on (l ∷ ls)) c = cond (is_new from c) free (cond (nat_lt l c) free (cond (l == c) (on ls) before))
next_threshold from before c = cond (is_new from c) free before

abbrev pub passed : ℕ → Threshold → List Joined → List Joined
passed from g ps = filter (admitted (admits from g)) ps

-- below this identity a row leaves the search before the list
abbrev pub threshold_bound : ℕ → Threshold → ℕ
threshold_bound from free = 0
threshold_bound from before = from
threshold_bound from (on []) = 0
threshold_bound from (on (l ∷ ls)) = min l from
