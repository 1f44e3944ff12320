use Rattle.chr_semantics.proofs.BarrenLaw.{barren}
use Rattle.chr_semantics.proofs.HopelessLaw.{hopeless}
use Rattle.chr_semantics.proofs.laws.suspicion_law.Goals as goal

pub returns : goal.returns
returns c = record { barren = barren; hopeless = hopeless }
