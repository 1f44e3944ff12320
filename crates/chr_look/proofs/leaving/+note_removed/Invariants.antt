use Rattle.std.proofs.Common.{length}
use Rattle.chr_look.proofs.leaving.+note_removed.Given as goal

abbrev pub decreases-note_removed : goal.decreases-note_removed
decreases-note_removed g l = length l.ids.now
