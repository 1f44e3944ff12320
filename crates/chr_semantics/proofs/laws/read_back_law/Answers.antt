use Rattle.chr_semantics.proofs.ReadBack.{read_back_law}
use Rattle.chr_semantics.proofs.laws.read_back_law.Goals as goal

pub returns : goal.returns
returns c = read_back_law
