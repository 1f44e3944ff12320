use Rattle.chr_semantics.proofs.laws.snapshot_law.Goals as goal
use Rattle.chr_semantics.proofs.SnapshotLaw as laws

pub returns : goal.returns
returns c = laws.snapshot_law
