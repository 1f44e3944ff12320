use Rattle.std.proofs.Common.{arith}
use Rattle.chr_rules.specs.ProgramView.{rules_of}
use Rattle.chr_find.specs.SnapshotView.{task_view}
use Rattle.chr_base.specs.BaseView.{program_of}
use Rattle.chr_machine.proofs.OtherTasks.{next_is_other}
use Rattle.chr_machine.proofs.execution.Execution.has_other.Goals as goal

pub returns : goal.returns
returns g c =
    let w = c.args.waiting in
    next_is_other (rules_of (program_of c.args.self.now.course.base)) (task_view c.args.task) w.sym.0 w.id.0 w.number c.reaches-2.result c.if-not-reaches.ensures.cases (omega (arith, c.if-waiting-task.false)) (omega (arith, c.if-waiting-task-2.false)) c.reaches-2.ensures.cases
