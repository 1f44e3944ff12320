use Rattle.chr_semantics.proofs.laws.rule_entries_law.Goals as goal
use Rattle.chr_semantics.proofs.SnapshotLaw as laws

pub returns : goal.returns
returns c = laws.rule_entries_law
