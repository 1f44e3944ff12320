use Rattle.std.proofs.Common.{◌∙◌, sym}
use Rattle.chr_bind.proofs.Guards.{entailed_at, entailed_end, not_entailed_at}
use Rattle.chr_bind.proofs.guard.guard_holds.Goals as goal

pub returns-then-not-branch : goal.returns-then-not-branch
returns-then-not-branch g c m h =
    not_entailed_at m c.args.tests.now c.loop-test.test-index c.test-item.result _ c.loop-test-test.true c.test-item.is (c.in_ok-holds.ensures m h) c.if-not-branch.true ∙ sym (c.loop-test.invariant m h)

pub loop-test-preserved : goal.loop-test-preserved
loop-test-preserved g c m h =
    c.loop-test.invariant m h ∙ entailed_at m c.args.tests.now c.loop-test.test-index c.test-item.result _ c.loop-test-test.true c.test-item.is (c.in_ok-holds.ensures m h) c.if-not-branch.false

pub returns : goal.returns
returns g c m h = entailed_end m c.args.tests.now c.loop-test.test-index c.loop-test-test.false ∙ sym (c.loop-test.invariant m h)
