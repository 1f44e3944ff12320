use Rattle.chr_semantics.proofs.StampsLaw.{stamps_law}
use Rattle.chr_semantics.proofs.laws.stamps_law.Goals as goal

pub returns : goal.returns
returns c = stamps_law
