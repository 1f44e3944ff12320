use Rattle.chr_semantics.proofs.RowsLaw.{rows_law}
use Rattle.chr_semantics.proofs.laws.rows_law.Goals as goal

pub returns : goal.returns
returns c = rows_law
