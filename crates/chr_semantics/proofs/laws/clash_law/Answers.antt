use Rattle.chr_semantics.proofs.laws.clash_law.Goals as goal
use Rattle.chr_semantics.proofs.KeyLaw as laws

pub returns : goal.returns
returns c = laws.clash_law
