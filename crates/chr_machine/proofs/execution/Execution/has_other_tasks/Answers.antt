use Rattle.std.proofs.Common.{◌∙◌}
use Rattle.chr_find.specs.SnapshotView.{task_view}
use Rattle.chr_trace.specs.State.{stack_view}
use Rattle.chr_machine.specs.Gathering.{waiting_view}
use Rattle.chr_machine.specs.Model.{model_of}
use Rattle.chr_machine.proofs.OtherTasks.{none_active, two_needed}
use Rattle.chr_machine.proofs.execution.Execution.has_other_tasks.Goals as goal

pub returns-in-Some : goal.returns-in-Some
returns-in-Some g c = c.has_other_at.ensures ∙ two_needed (model_of c.args.self.now) (waiting_view c.in-Some.active) (stack_view c.in-Some.below.now) (task_view c.args.task) c.requires c.in-Some.ensures

pub returns-in-None : goal.returns-in-None
returns-in-None g c = none_active (model_of c.args.self.now) c.in-None.ensures
