use Rattle.std.proofs.Common.{◌≤◌, ◌-◌}
use Rattle.chr_machine.specs.MachineView.{Further}
use Rattle.chr_machine.specs.Model.{model_of}
use Rattle.chr_machine.specs.Step.{IsSteady}
use Rattle.chr_machine.proofs.execution.Execution.run_alone.Given as goal

abbrev pub invariant-loop-made : goal.invariant-loop-made
invariant-loop-made g l = record {
  within : l.made ≤ l.n;
  further : Further l.made (model_of l.initial.self) (model_of l.self);
  steady : IsSteady l.self;
}

abbrev pub decreases-loop-made : goal.decreases-loop-made
decreases-loop-made g l = l.n - l.made
