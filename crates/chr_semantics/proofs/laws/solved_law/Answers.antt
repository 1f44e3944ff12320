use Rattle.chr_semantics.proofs.SolvedLaw.{solved_law}
use Rattle.chr_semantics.proofs.laws.solved_law.Goals as goal

pub returns : goal.returns
returns c = solved_law
