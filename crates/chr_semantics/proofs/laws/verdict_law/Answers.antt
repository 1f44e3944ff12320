use Rattle.chr_semantics.proofs.VerdictLaw.{verdict_law}
use Rattle.chr_semantics.proofs.laws.verdict_law.Goals as goal

pub returns : goal.returns
returns c = verdict_law
