use Rattle.chr_semantics.proofs.IdleLaw.{idle_law}
use Rattle.chr_semantics.proofs.laws.idle_law.Goals as goal

pub returns : goal.returns
returns c = idle_law
