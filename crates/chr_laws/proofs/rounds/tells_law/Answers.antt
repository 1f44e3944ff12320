use Rattle.chr_laws.proofs.Tells.{tells_law}
use Rattle.chr_laws.proofs.rounds.tells_law.Goals as goal

pub returns : goal.returns
returns c = tells_law
