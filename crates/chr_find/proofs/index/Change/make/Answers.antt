use Rattle.std.proofs.Common.{arith}
use Rattle.chr_find.proofs.Kept.{kept_from, kept_to, set_more}
use Rattle.chr_find.proofs.index.Change.make.Goals as goal

pub returns-in_err-set_at-clause-err : goal.returns-in_err-set_at-clause-err
returns-in_err-set_at-clause-err g c =
    let change = c.args.self.now in
    kept_to c.args.lookups.now change.id.0 change.row c.set_at.new.index c.loop-lookup.index c.args.index.now _ c.in_err-set_at.ensures.err
    (kept_from c.loop-lookup.lookup-index c.args.lookups.now change.id.0 change.row change.is_there c.loop-lookup.index c.args.index.now c.loop-lookup.invariant)

pub loop-lookup-preserved : goal.loop-lookup-preserved
loop-lookup-preserved g c =
    let change = c.args.self.now in
    set_more c.args.lookups.now c.loop-lookup.lookup-index _ change.id.0 change.row change.is_there c.set_at.new.index c.loop-lookup.index c.args.index.now (omega (arith, c.loop-lookup-test.true)) c.loop-lookup.invariant c.in_ok-set_at.ensures.ok
