use Rattle.chr_semantics.proofs.laws.look_law.Goals as goal
use Rattle.chr_semantics.proofs.LookLaw as laws

pub returns : goal.returns
returns c = laws.look_law
