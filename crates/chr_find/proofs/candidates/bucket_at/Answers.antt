use Rattle.chr_find.proofs.EnoughRows.{bucket_enough}
use Rattle.chr_find.proofs.candidates.bucket_at.Goals as goal

pub returns-in-Some-root_under : goal.returns-in-Some-root_under
returns-in-Some-root_under g c ps m planned agrees =
    bucket_enough ps c.args.sym c.args.args.now c.args.position c.in-Some.pattern.now c.root_under.result c.in-Some-root_under.root m planned c.in-Some.ensures.lookup.3.0 c.in-Some.ensures.lookup.1 c.in-Some-root_under.is (c.root_under.ensures m agrees)
