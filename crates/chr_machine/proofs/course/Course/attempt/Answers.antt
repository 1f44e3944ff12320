use Rattle.std.proofs.Common.{◌∙◌, subst, sym}
use Rattle.std.specs.Prelude.{IfOk}
use Rattle.chr_semantics.specs.Program.{Goal}
use Rattle.chr_semantics.specs.Step.{solve}
use Rattle.chr_rules.specs.RuleView.{goal_view}
use Rattle.chr_term.specs.TermView.{view}
use Rattle.chr_machine.specs.Model.{course_of}
use Rattle.chr_machine.specs.Solving.{Solves, with_goal}
use Rattle.chr_machine.proofs.course.Course.attempt.Goals as goal

pub returns-in-Tell-clause-ok : goal.returns-in-Tell-clause-ok
returns-in-Tell-clause-ok g c =
    let k = course_of c.args.self.now in
    let w = goal_view c.args.goal.now in
    subst (λ (x : Goal). IfOk c.tell.result (λ solved. Solves w (λ rest. solve (with_goal w rest k) rest x) k solved (course_of c.tell.new.self)))
    (sym (c.requires.goal ∙ c.in-Tell.ensures (view c.args.left.now) (view c.args.right.now))) c.tell.ensures.ok

pub returns-in-Evaluate-clause-ok : goal.returns-in-Evaluate-clause-ok
returns-in-Evaluate-clause-ok g c =
    let k = course_of c.args.self.now in
    let w = goal_view c.args.goal.now in
    subst (λ (x : Goal). IfOk c.evaluate.result (λ solved. Solves w (λ rest. solve (with_goal w rest k) rest x) k solved (course_of c.evaluate.new.self)))
    (sym (c.requires.goal ∙ c.in-Evaluate.ensures (view c.args.left.now) (view c.args.right.now))) c.evaluate.ensures.ok

pub returns-in-Compare-clause-ok : goal.returns-in-Compare-clause-ok
returns-in-Compare-clause-ok g c =
    let k = course_of c.args.self.now in
    let w = goal_view c.args.goal.now in
    subst (λ (x : Goal). IfOk c.compare.result (λ solved. Solves w (λ rest. solve (with_goal w rest k) rest x) k solved (course_of c.compare.new.self)))
    (sym (c.requires.goal ∙ c.in-Compare.ensures (view c.args.left.now) (view c.args.right.now))) c.compare.ensures.ok
