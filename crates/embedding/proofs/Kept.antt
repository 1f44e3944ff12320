-- The names of a program, where those of a query stood behind them.
use Rattle.std.proofs.Common.{◌≡◌, ◌∙◌, ◌≤◌, ◌+◌, ℕ, length, length-append, take, ap, arith}
use Rattle.std.proofs.lemmas.List.{length-take-le, take-append-le, take_all}
use Rattle.chr_semantics.specs.Names.{Names}
use Rattle.chr_rules.specs.Grown.{Grows}

-- names that only grow keep the first
pub kept : (own : ℕ) (old new : Names) → own ≤ length old → Grows (take own old) new → take own new ≡ take own old
kept own old new inside grown =
    let long : length (take own old) ≡ own = length-take-le own old inside in
    ap (take own) grown.is
    ∙ (take-append-le own (take own old) grown.more (omega (arith, long))
    ∙ take_all own (take own old) (omega (arith, long)))

-- and still have them
pub still : (own : ℕ) (old new : Names) → own ≤ length old → Grows (take own old) new → own ≤ length new
still own old new inside grown =
    let long : length (take own old) ≡ own = length-take-le own old inside in
    let all : length new ≡ length (take own old) + length grown.more = ap length grown.is ∙ length-append (take own old) grown.more in
    omega (arith, long, all)
