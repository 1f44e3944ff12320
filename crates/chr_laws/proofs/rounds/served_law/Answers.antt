use Rattle.chr_laws.proofs.Served.{served_law}
use Rattle.chr_laws.proofs.rounds.served_law.Goals as goal

pub returns : goal.returns
returns c = served_law
