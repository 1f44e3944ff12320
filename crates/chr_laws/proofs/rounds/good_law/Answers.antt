use Rattle.chr_laws.proofs.GoodLaw.{good_law}
use Rattle.chr_laws.proofs.rounds.good_law.Goals as goal

pub returns : goal.returns
returns c = good_law
