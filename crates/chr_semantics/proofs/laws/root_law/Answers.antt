use Rattle.chr_semantics.proofs.laws.root_law.Goals as goal
use Rattle.chr_semantics.proofs.KeyLaw as laws

pub returns : goal.returns
returns c = laws.root_law
