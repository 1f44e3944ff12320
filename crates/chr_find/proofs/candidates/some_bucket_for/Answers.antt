use Rattle.chr_find.specs.PlanView.{lookups_of}
use Rattle.chr_find.proofs.EnoughRows.{all_enough, planned_at}
use Rattle.chr_find.proofs.candidates.some_bucket_for.Goals as goal

pub returns-in-Some : goal.returns-in-Some
returns-in-Some g c m agrees =
    c.in-Some.ensures (lookups_of c.args.plan.now) m
    (planned_at (lookups_of c.args.plan.now) c.args.sym.0 c.lookups-lookup-items.result.now c.loop-lookup.lookup-index _ c.lookups-lookup-items.ensures c.loop-lookup-test.true) agrees

pub returns : goal.returns
returns g c m agrees = all_enough (lookups_of c.args.plan.now) _ m
