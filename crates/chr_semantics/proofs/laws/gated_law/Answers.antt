use Rattle.chr_semantics.proofs.laws.gated_law.Goals as goal
use Rattle.chr_semantics.proofs.CursorLaw as laws

pub returns : goal.returns
returns c = laws.gated_law
