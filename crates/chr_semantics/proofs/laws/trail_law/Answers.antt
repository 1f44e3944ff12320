use Rattle.chr_semantics.proofs.laws.trail_law.Goals as goal
use Rattle.chr_semantics.proofs.TrailLaw as laws

pub returns : goal.returns
returns c = laws.trail_law
