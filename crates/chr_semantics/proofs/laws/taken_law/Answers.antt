use Rattle.chr_semantics.proofs.TakenLaw.{taken_law}
use Rattle.chr_semantics.proofs.laws.taken_law.Goals as goal

pub returns : goal.returns
returns c = taken_law
