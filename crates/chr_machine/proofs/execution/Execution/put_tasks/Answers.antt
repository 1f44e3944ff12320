use Rattle.std.proofs.Common.{◌∙◌, ◌+◌, ◌≤◌, List, ap, arith, length, sym}
use Rattle.std.proofs.lemmas.List.{length-map}
use Rattle.chr_semantics.specs.Tasks.{Task, tasks_from}
use Rattle.chr_semantics.specs.declared.limits.TheConstants.{MAX_TASKS}
use Rattle.chr_rules.specs.ProgramView.{rules_of}
use Rattle.chr_find.specs.SnapshotView.{task_view, tasks_view}
use Rattle.chr_machine.specs.Gathering.{gathered}
use Rattle.chr_machine.proofs.Gathered.{gathered_full, tasks_next}
use Rattle.chr_base.specs.BaseView.{program_of}
use Rattle.chr_machine.proofs.execution.Execution.put_tasks.Goals as goal

pub loop-waiting-preserved : goal.loop-waiting-preserved
loop-waiting-preserved g c =
    let p = rules_of (program_of c.args.self.now.course.base) in
    let w = c.args.waiting in
    let l = c.loop-waiting in
    let next = tasks_next p w.sym.0 w.id.0 l.number c.if-reaches.ensures.cases in
    l.invariant
    ∙ (ap (gathered MAX_TASKS (tasks_view l.tasks.items)) next ∙ ap (λ (ts : List Task). gathered MAX_TASKS ts (tasks_from p w.sym.0 w.id.0 (l.number + 1))) (sym c.in_ok-put_task.ensures))

pub returns-after-loop-waiting : goal.returns-after-loop-waiting
returns-after-loop-waiting g c =
    let l = c.loop-waiting in
    let w = c.args.waiting in
    let full : MAX_TASKS ≤ length (tasks_view l.tasks.items) = omega (arith, length-map l.tasks.items task_view, l.tasks.ok.0, c.len.ensures, c.loop-waiting-test.false) in
    sym (l.invariant ∙ gathered_full MAX_TASKS (tasks_view l.tasks.items) (tasks_from (rules_of (program_of c.args.self.now.course.base)) w.sym.0 w.id.0 l.number) full)
