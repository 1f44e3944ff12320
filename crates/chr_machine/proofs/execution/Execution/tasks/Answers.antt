use Rattle.std.proofs.Common.{◌≡◌, ◌∙◌, List, ap, subst, sym}
use Rattle.std.specs.Prelude.{IfOk}
use Rattle.chr_semantics.specs.Tasks.{Task}
use Rattle.chr_rules.specs.ProgramView.{rules_of}
use Rattle.chr_find.specs.SnapshotView.{tasks_view}
use Rattle.chr_machine.specs.Gathering.{tasks_by}
use Rattle.chr_machine.specs.Model.{model_of, state_in}
use Rattle.chr_machine.proofs.Tops.{tasks_are}
use Rattle.chr_base.specs.BaseView.{program_of}
use Rattle.chr_machine.proofs.execution.Execution.tasks.Goals as goal

pub returns-in-Some : goal.returns-in-Some
returns-in-Some g c =
    let p = rules_of (program_of c.args.self.now.course.base) in
    let s = state_in (model_of c.args.self.now) in
    subst (λ (ts : List Task). IfOk c.tasks_at.result (λ list. tasks_view list.items ≡ ts)) (sym (tasks_are p s s.stack ∙ ap (tasks_by p s) (sym c.in-Some.ensures))) c.tasks_at.ensures
