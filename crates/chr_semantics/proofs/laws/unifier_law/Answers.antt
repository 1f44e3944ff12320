use Rattle.chr_semantics.proofs.UnifierLaw.{unifier_law}
use Rattle.chr_semantics.proofs.laws.unifier_law.Goals as goal

pub returns : goal.returns
returns c = unifier_law
