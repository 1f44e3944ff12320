use Rattle.chr_semantics.proofs.SameLaw.{same_law}
use Rattle.chr_semantics.proofs.laws.same_law.Goals as goal

pub returns : goal.returns
returns c = same_law
