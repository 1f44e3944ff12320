use Rattle.chr_map.proofs.Clauses.{ok_leads}
use Rattle.chr_find.proofs.table.Table.settle_for.Goals as goal

pub returns-then-is_for-clause-own : goal.returns-then-is_for-clause-own
returns-then-is_for-clause-own g c = ok_leads _ _ c.settle.result c.settle.ensures.ok (λ settled. c.settle.ensures.own c.args.id.0 (c.is_for.ensures c.if-is_for.true))

pub returns-else-is_for-clause-own : goal.returns-else-is_for-clause-own
returns-else-is_for-clause-own g c = ok_leads _ _ c.settle_all.result c.settle_all.ensures.ok (λ whole. whole.all c.args.id.0)
