use Rattle.chr_laws.proofs.Stands.{stands_law}
use Rattle.chr_laws.proofs.rounds.stands_law.Goals as goal

pub returns : goal.returns
returns c = stands_law
