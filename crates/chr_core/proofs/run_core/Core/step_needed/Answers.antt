use Rattle.std.proofs.Common.{ap, ◌∙◌}
use Rattle.chr_find.specs.SnapshotView.{task_view}
use Rattle.chr_machine.specs.MachineView.{machine_view}
use Rattle.chr_machine.specs.NeedView.{need_view}
use Rattle.chr_rules.specs.RuleView.{query_view}
use Rattle.chr_core.proofs.Serves.{needed_occurrence}
use Rattle.chr_core.proofs.run_core.Core.step_needed.Goals as goal

pub serving-requires : goal.serving-requires
serving-requires g c =
    let core = c.args.self.now in
    let m = machine_view core.machine in
    needed_occurrence m.names g.J.RunName.rules (query_view core.query) m core.at (task_view c.in-Search.task) (c.requires.needs_are ∙ ap need_view c.in-Search.is)
