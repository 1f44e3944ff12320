use Rattle.chr_semantics.proofs.LimitsLaw.{limits_law}
use Rattle.chr_semantics.proofs.laws.limits_law.Goals as goal

pub returns : goal.returns
returns c = limits_law
