use Rattle.std.proofs.Common.{take}
use Rattle.chr_find.specs.IndexKeys.{AreSet}
use Rattle.chr_find.proofs.index.Change.make.Given as goal

-- the lists by the indexes so far are set
abbrev pub invariant-loop-lookup : goal.invariant-loop-lookup
invariant-loop-lookup g l = AreSet (take l.lookup-index l.lookups) l.self.id.0 l.self.row l.self.is_there l.index l.fn.index
