use Rattle.chr_semantics.proofs.laws.totals_law.Goals as goal
use Rattle.chr_semantics.proofs.TotalsLaw as laws

pub returns : goal.returns
returns c = laws.totals_law
