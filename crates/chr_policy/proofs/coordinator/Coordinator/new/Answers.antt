use Rattle.std.proofs.Common.{List, arith, subst, sym}
use Rattle.chr_semantics.specs.Schedule.{Event}
use Rattle.chr_core.specs.CoreView.{start_of}
use Rattle.chr_policy.specs.Standing.{Rests}
use Rattle.chr_policy.proofs.Standings.{rests_at_start}
use Rattle.chr_policy.proofs.coordinator.Coordinator.new.Goals as goal

pub returns-clause-rests : goal.returns-clause-rests
returns-clause-rests g c =
    let p = g.J.RunName.rules in
    let q = start_of c.in_ok-core.core in record {
      rests = subst (λ (es : List Event). Rests p q c.args.workers 0 es) (sym c.in_ok-core.ensures.events) (rests_at_start p q c.args.workers);
      few = omega arith;
      full = λ is. cc;
    }
