use Rattle.std.proofs.Common.{◌≡◌, arith, length}
use Rattle.std.proofs.Math.Seq.{take-length}
use Rattle.chr_rules.proofs.Listed.{pairs_in-more}
use Rattle.chr_rules.proofs.index.index_of.Goals as goal

pub loop-number-preserved : goal.loop-number-preserved
loop-number-preserved g c = λ f.
    let so_far = c.loop-number.invariant f in
    rw (c.in_ok-append_rule.ensures f, so_far) (pairs_in-more c.args.rules.now c.loop-number.number c.index-rules-number.result f (omega arith) c.index-rules-number.is)

pub returns : goal.returns
returns g c = λ f.
    let all : c.loop-number.number ≡ length c.args.rules.now = omega arith in
    rw (all, take-length) at (c.loop-number.invariant f)
