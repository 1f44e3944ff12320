use Rattle.chr_semantics.proofs.UsedLaw.{used_law}
use Rattle.chr_semantics.proofs.laws.used_law.Goals as goal

pub returns : goal.returns
returns c = used_law
