use Rattle.chr_laws.proofs.SumsLaw.{sums_law}
use Rattle.chr_laws.proofs.rounds.sums_law.Goals as goal

pub returns : goal.returns
returns c = sums_law
