use Rattle.chr_semantics.proofs.laws.tries_law.Goals as goal
use Rattle.chr_semantics.proofs.TriesLaw as laws

pub returns : goal.returns
returns c = laws.tries_law
