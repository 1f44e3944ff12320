use Rattle.chr_semantics.proofs.TuplesLaw.{tuples_law}
use Rattle.chr_semantics.proofs.laws.tuples_law.Goals as goal

pub returns : goal.returns
returns c = tuples_law
