use Rattle.chr_map.proofs.Clauses.{ok_leads}
use Rattle.chr_find.proofs.table.Table.settle_all.Goals as goal

pub returns-clause-ok : goal.returns-clause-ok
returns-clause-ok g c = ok_leads _ _ c.settle.result c.settle.ensures.ok (λ settled. record { settled = settled; all = λ i. c.settle.ensures.own i (c.in_ok-enlist.ensures.ok i) })
