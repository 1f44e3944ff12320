use Rattle.chr_read.proofs.OneReading.{one_reading_law}
use Rattle.chr_read.proofs.laws.one_reading_law.Goals as goal

pub returns : goal.returns
returns c = one_reading_law
