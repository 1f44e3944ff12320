use Rattle.std.proofs.Common.{◌≡◌, arith, length}
use Rattle.std.proofs.Math.Seq.{take-length}
use Rattle.chr_rules.proofs.Numbered.{words_pushed}
use Rattle.chr_rules.proofs.variables.copied.Goals as goal

pub loop-place-preserved : goal.loop-place-preserved
loop-place-preserved g c =
    rw c.in_ok-push.ensures.items (words_pushed _ _ _ _ _ c.loop-place.invariant c.loop-place-test.true c.in_ok-from_str.ensures.ok)

pub returns : goal.returns
returns g c =
    let all : c.loop-place.place ≡ length c.args.words.now = omega arith in
    rw (all, take-length) at c.loop-place.invariant
