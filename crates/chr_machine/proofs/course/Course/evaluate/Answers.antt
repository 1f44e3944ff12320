use Rattle.std.proofs.Common.{◌∙◌, ap, rules, sym}
use Rattle.std.proofs.lemmas.Int.{to_z-of_z}
use mir.Syntax.{w128}
use mir.Val.{SFits}
use Rattle.chr_bind.specs.Values.{value_view}
use Rattle.chr_rules.specs.RuleView.{goal_view}
use Rattle.chr_term.specs.TermView.{view}
use Rattle.chr_machine.specs.Model.{course_of}
use Rattle.chr_machine.proofs.Solved.{evaluated}
use Rattle.chr_machine.proofs.course.Course.evaluate.Goals as goal

pub returns-in-Ok-clause-ok : goal.returns-in-Ok-clause-ok
returns-in-Ok-clause-ok g c =
    let fits : SFits w128 c.in-Ok.number = search rules in
    let tells = simp to_z-of_z at c.tell.ensures.ok in
    evaluated c.tell.result (goal_view c.args.goal.now) (course_of c.args.self.now) (course_of c.tell.new.self) (view c.args.left.now) (view c.args.right.now) c.in-Ok.number (sym c.value_of.ensures ∙ ap value_view c.in-Ok.is) tells
