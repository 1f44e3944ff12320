use Rattle.chr_semantics.proofs.laws.order_law.Goals as goal
use Rattle.chr_semantics.proofs.MatchOrder as laws

pub returns : goal.returns
returns c = laws.order_law
