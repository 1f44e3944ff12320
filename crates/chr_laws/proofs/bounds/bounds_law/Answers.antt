use Rattle.chr_laws.proofs.Steps.{bounds_law}
use Rattle.chr_laws.proofs.bounds.bounds_law.Goals as goal

pub returns : goal.returns
returns c = bounds_law
