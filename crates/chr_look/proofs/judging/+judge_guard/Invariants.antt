use Rattle.std.proofs.Common.{length}
use Rattle.chr_look.proofs.judging.+judge_guard.Given as goal

abbrev pub decreases-judge_guard : goal.decreases-judge_guard
decreases-judge_guard g l = length l.tests.now
