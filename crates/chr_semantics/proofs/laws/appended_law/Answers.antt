use Rattle.chr_semantics.proofs.AppendedLaw.{appended_law}
use Rattle.chr_semantics.proofs.laws.appended_law.Goals as goal

pub returns : goal.returns
returns c = appended_law
