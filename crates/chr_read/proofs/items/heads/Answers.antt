use Rattle.chr_read.specs.Reads.{in_behind, in_heads}
use Rattle.chr_read.proofs.items.heads.Goals as goal

pub returns-clause-in_heads : goal.returns-clause-in_heads
returns-clause-in_heads g c l w = c.head_list.ensures.reads (in_heads l w)

pub returns-clause-in_behind : goal.returns-clause-in_behind
returns-clause-in_behind g c l w hs = c.head_list.ensures.reads (in_behind l w hs)
