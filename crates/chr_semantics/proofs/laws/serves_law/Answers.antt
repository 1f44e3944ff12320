use Rattle.chr_semantics.proofs.ServesLaw.{serves_law}
use Rattle.chr_semantics.proofs.laws.serves_law.Goals as goal

pub returns : goal.returns
returns c = serves_law
