use Rattle.chr_semantics.proofs.DeadEntriesLaw.{dead_entries_law}
use Rattle.chr_semantics.proofs.laws.dead_entries_law.Goals as goal

pub returns : goal.returns
returns c = dead_entries_law
