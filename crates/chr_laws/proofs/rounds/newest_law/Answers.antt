use Rattle.chr_laws.proofs.Newest.{newest_law}
use Rattle.chr_laws.proofs.rounds.newest_law.Goals as goal

pub returns : goal.returns
returns c = newest_law
