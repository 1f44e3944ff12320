use Rattle.std.specs.Prelude.{ℕ, Bool}
use Rattle.chr_semantics.specs.Schedule.{Progress}
use Rattle.chr_core.specs.CoreView.{IsSameRun, events_of, start_of}
use Rattle.chr_policy.specs.Standing.{Keeps}
use Rattle.chr_policy.proofs.sharing.absorb.Given as goal

abbrev pub invariant-loop-answer : goal.invariant-loop-answer
invariant-loop-answer g l =
    let p = g.J.RunName.rules in
    let q = start_of l.initial.core in record {
      run : IsSameRun l.initial.core l.core;
      keeps : (at : Progress) (published : Bool) (missed : ℕ) → Keeps p q (events_of l.initial.core) at published missed → Keeps p q (events_of l.core) at published missed;
    }
