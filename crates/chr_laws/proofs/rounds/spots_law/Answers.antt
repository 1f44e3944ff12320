use Rattle.chr_laws.proofs.Spots.{spots_law}
use Rattle.chr_laws.proofs.rounds.spots_law.Goals as goal

pub returns : goal.returns
returns c = spots_law
