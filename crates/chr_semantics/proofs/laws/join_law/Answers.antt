use Rattle.chr_semantics.proofs.laws.join_law.Goals as goal
use Rattle.chr_semantics.proofs.JoinLaw as laws

pub returns : goal.returns
returns c = laws.join_law
