use Rattle.std.proofs.Common.{◌==◌, ap, ℕ}
use Rattle.std.proofs.lemmas.Nat.Bits.{shr_and_one}
use Rattle.chr_bind.proofs.matching.Marks.has.Goals as goal

pub returns : goal.returns
returns c = ap (λ (n : ℕ). n == 1) (shr_and_one c.args.self.marks c.args.var)
