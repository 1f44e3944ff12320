use Rattle.std.proofs.Common.{ap, map, sym, ◌∙◌}
use Rattle.chr_semantics.specs.Schedule.{progress}
use Rattle.chr_semantics.specs.State.{start}
use Rattle.chr_find.specs.SnapshotView.{task_view}
use Rattle.chr_machine.specs.MachineView.{machine_view}
use Rattle.chr_rules.specs.RuleView.{query_view}
use Rattle.chr_schedule.specs.EventView.{event_view}
use Rattle.chr_core.specs.CoreView.{core_in}
use Rattle.chr_core.specs.Serving.{served_by}
use Rattle.chr_core.proofs.Serves.{needed_occurrence, served_is}
use Rattle.chr_core.proofs.run_core.Core.serves.Goals as goal

pub returns-in-Search : goal.returns-in-Search
returns-in-Search g c =
    let core = c.args.self.now in
    let p = g.J.RunName.rules in
    let r = query_view core.query in
    let es = map event_view core.events.items in
    c.is_some.ensures
    ∙ served_is p r es (core_in core) core.stands (task_view c.in-Search.task) c.serving.result c.serving.ensures.some c.serving.ensures.none
    ∙ ap (served_by p (start r) (progress p (start r) es)) c.in-Search.ensures

pub serving-requires : goal.serving-requires
serving-requires g c =
    let core = c.args.self.now in
    let m = machine_view core.machine in
    needed_occurrence m.names g.J.RunName.rules (query_view core.query) m core.at (task_view c.in-Search.task) (sym c.in-Search.ensures)
