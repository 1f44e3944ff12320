use Rattle.std.proofs.Common.{arith}
use Rattle.chr_bind.proofs.Marked.{marks_covered}
use Rattle.chr_bind.proofs.fitting.fit.Goals as goal

pub back_to-requires : goal.back_to-requires
back_to-requires g c = ((omega arith), marks_covered c.args.matching.now c.fit_or_spoil.new.matching c.marks-marks.result c.marks-marks.ensures c.fit_or_spoil.ensures.kept)
