use Rattle.std.proofs.Common.{arith, inl}
use Rattle.chr_trace.proofs.StoreRows.{length-rows}
use Rattle.cordspar.proofs.run.count_rows.Goals as goal

pub count-requires-clause-fits : goal.count-requires-clause-fits
count-requires-clause-fits c = inl (omega (arith, length-rows c.rows.result.next c.rows.result.slots.now, c.rows.result.few))
