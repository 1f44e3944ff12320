use Rattle.chr_semantics.proofs.FootprintLaw.{footprint_law}
use Rattle.chr_semantics.proofs.laws.footprint_law.Goals as goal

pub returns : goal.returns
returns c = footprint_law
