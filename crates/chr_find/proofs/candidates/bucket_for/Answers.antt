use Rattle.chr_find.specs.PlanView.{lookups_of}
use Rattle.chr_find.proofs.EnoughRows.{all_enough, planned_at}
use Rattle.chr_find.proofs.candidates.bucket_for.Goals as goal

pub loop-lookup-init : goal.loop-lookup-init
loop-lookup-init g c m agrees = all_enough (lookups_of c.args.plan.now) _ m

pub loop-lookup-preserved : goal.loop-lookup-preserved
loop-lookup-preserved g c m agrees =
    c.shorter_by-best.ensures (lookups_of c.args.plan.now) m
    (planned_at (lookups_of c.args.plan.now) c.args.sym.0 c.lookups-lookup-items.result.now c.loop-lookup.lookup-index _ c.lookups-lookup-items.ensures c.loop-lookup-test.true) agrees
    (c.loop-lookup.invariant m agrees)
