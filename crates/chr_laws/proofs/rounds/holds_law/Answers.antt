use Rattle.chr_laws.proofs.Holds.{holds_law}
use Rattle.chr_laws.proofs.rounds.holds_law.Goals as goal

pub returns : goal.returns
returns c = holds_law
