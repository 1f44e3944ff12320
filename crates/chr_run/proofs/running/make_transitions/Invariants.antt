use Rattle.std.proofs.Common.{◌≡◌, ◌≤◌, ◌-◌}
use Rattle.chr_policy.specs.CoordinatorView.{IsAtRest, machine_by}
use Rattle.chr_run.specs.Sending.{AreOut}
use Rattle.chr_run.specs.Turns.{IsOfRun}
use Rattle.chr_run.proofs.running.make_transitions.Given as goal

abbrev pub invariant-loop-transitions : goal.invariant-loop-transitions
invariant-loop-transitions g l = record {
  within : l.transitions ≤ l.budget;
  steps : (machine_by l.coordinator).steps ≡ l.transitions;
  same : IsOfRun l.initial.coordinator l.coordinator;
  rests : IsAtRest l.coordinator;
  out : AreOut (g.O.Outlet.known l.initial.outlet) (g.O.Outlet.known l.outlet) (machine_by l.coordinator).lines l.sent;
}

abbrev pub decreases-loop-transitions : goal.decreases-loop-transitions
decreases-loop-transitions g l = l.budget - l.transitions
