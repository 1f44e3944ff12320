use Rattle.chr_semantics.proofs.laws.cursor_law.Goals as goal
use Rattle.chr_semantics.proofs.CursorLaw as laws

pub returns : goal.returns
returns c = laws.cursor_law
