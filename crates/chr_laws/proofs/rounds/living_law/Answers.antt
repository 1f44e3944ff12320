use Rattle.chr_laws.proofs.Living.{living_law}
use Rattle.chr_laws.proofs.rounds.living_law.Goals as goal

pub returns : goal.returns
returns c = living_law
