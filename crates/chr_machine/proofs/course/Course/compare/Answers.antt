use Rattle.std.proofs.Common.{◌≡◌, rules, true}
use Rattle.chr_rules.specs.RuleView.{goal_view}
use Rattle.chr_semantics.specs.Guard.{comparison_holds}
use Rattle.chr_bind.specs.Comparison.{comparison_view}
use Rattle.chr_term.specs.TermView.{view}
use Rattle.chr_machine.specs.Model.{course_of}
use Rattle.chr_machine.proofs.Solved.{compared_holds}
use Rattle.chr_machine.proofs.course.Course.compare.Goals as goal

pub returns-in_ok-write_solve-in-Ok-clause-ok : goal.returns-in_ok-write_solve-in-Ok-clause-ok
returns-in_ok-write_solve-in-Ok-clause-ok g c =
    let holds : comparison_holds (comparison_view c.args.comparison) c.in-Ok.left c.in-Ok.right ≡ true = search rules in
    compared_holds (goal_view c.args.goal.now) (course_of c.args.self.now) (course_of c.write_solve.new.self) (comparison_view c.args.comparison) (view c.args.left.now) (view c.args.right.now) c.in-Ok.left c.in-Ok.right c.in-Ok.ensures.0 c.in-Ok.ensures.1 holds c.in_ok-write_solve-in-Ok.ensures.ok
