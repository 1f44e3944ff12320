-- A value that is cut off at a bound and goes on is cut off where the value itself is.
use Rattle.std.proofs.Common.{◌≡◌, ℕ, ◌+◌, ◌-◌, ◌*◌, List, [], ◌∷◌, min, arith}
use Rattle.chr_semantics.specs.Tokens.{digits_value}

pub capped_value : (k : ℕ) (cs : List ℕ) (m n : ℕ) → min m k ≡ min n k → min (digits_value m cs) k ≡ min (digits_value n cs) k
capped_value k [] m n e = e
capped_value k (c ∷ cs) m n e = let h : min (m * 10 + (c - 48)) k ≡ min (n * 10 + (c - 48)) k = omega arith in capped_value k cs _ _ h

pub capped_step : (k : ℕ) (c v : ℕ) (cs : List ℕ) → min (digits_value (min (v * 10 + (c - 48)) k) cs) k ≡ min (digits_value (v * 10 + (c - 48)) cs) k
capped_step k c v cs = let h : min (min (v * 10 + (c - 48)) k) k ≡ min (v * 10 + (c - 48)) k = omega arith in capped_value k cs _ _ h
