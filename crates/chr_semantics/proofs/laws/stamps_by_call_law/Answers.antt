use Rattle.chr_semantics.proofs.laws.stamps_by_call_law.Goals as goal
use Rattle.chr_semantics.proofs.StampsByCallLaw as laws

pub returns : goal.returns
returns c = laws.stamps_by_call_law
