use Rattle.std.proofs.Common.{◌∙◌, sym}
use Rattle.chr_semantics.specs.Tasks.{below_top, guest_in, guest_tasks, tasks_from}
use Rattle.chr_rules.specs.ProgramView.{rules_of}
use Rattle.chr_find.specs.SnapshotView.{task_view}
use Rattle.chr_trace.specs.State.{stack_view}
use Rattle.chr_base.specs.BaseView.{program_of}
use Rattle.chr_machine.specs.Model.{model_of, state_in}
use Rattle.chr_machine.proofs.OtherTasks.{in_first, in_second, in_third}
use Rattle.chr_machine.proofs.execution.Execution.has_other_at.Goals as goal

pub returns-then-has_other : goal.returns-then-has_other
returns-then-has_other g c =
    let p = rules_of (program_of c.args.self.now.course.base) in
    let s = state_in (model_of c.args.self.now) in
    let w = c.args.active in
    let es = stack_view c.args.below.now in
    in_first (task_view c.args.task) (tasks_from p w.sym.0 w.id.0 w.number) (below_top p s es) (guest_tasks p s (guest_in es)) (sym c.has_other.ensures ∙ c.if-has_other.true)

pub returns-then-below_has_other : goal.returns-then-below_has_other
returns-then-below_has_other g c =
    let p = rules_of (program_of c.args.self.now.course.base) in
    let s = state_in (model_of c.args.self.now) in
    let w = c.args.active in
    let es = stack_view c.args.below.now in
    in_second (task_view c.args.task) (tasks_from p w.sym.0 w.id.0 w.number) (below_top p s es) (guest_tasks p s (guest_in es)) (sym c.has_other.ensures ∙ c.if-has_other.false) (sym c.below_has_other.ensures ∙ c.if-below_has_other.true)

pub returns : goal.returns
returns g c =
    let p = rules_of (program_of c.args.self.now.course.base) in
    let s = state_in (model_of c.args.self.now) in
    let w = c.args.active in
    let es = stack_view c.args.below.now in
    c.guest_has_other.ensures ∙ in_third (task_view c.args.task) (tasks_from p w.sym.0 w.id.0 w.number) (below_top p s es) (guest_tasks p s (guest_in es)) (sym c.has_other.ensures ∙ c.if-has_other.false) (sym c.below_has_other.ensures ∙ c.if-below_has_other.false)
