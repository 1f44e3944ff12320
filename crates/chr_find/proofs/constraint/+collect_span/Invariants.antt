use Rattle.std.proofs.Common.{length}
use Rattle.chr_find.proofs.constraint.+collect_span.Given as goal

abbrev pub decreases-collect_span : goal.decreases-collect_span
decreases-collect_span g l = length l.span.now
