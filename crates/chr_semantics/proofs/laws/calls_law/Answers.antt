use Rattle.chr_semantics.proofs.CallsLaw.{calls_law}
use Rattle.chr_semantics.proofs.laws.calls_law.Goals as goal

pub returns : goal.returns
returns c = calls_law
