use Rattle.std.proofs.Common.{◌∙◌, ap, sym}
use Rattle.chr_semantics.specs.Step.{goal_instance}
use Rattle.chr_term.specs.TermView.{view}
use Rattle.chr_rules.specs.RuleView.{goal_view}
use Rattle.chr_base.specs.Bodies.{stands_for}
use Rattle.chr_base.proofs.BodyGoals.{sides_instance}
use Rattle.chr_base.proofs.body.Body.goal.Goals as goal

pub returns-in_ok-right-in-Told : goal.returns-in_ok-right-in-Told
returns-in_ok-right-in-Told g c m a =
    let f = stands_for c.args.self.now m in
    rw (c.in_ok-left-in-Told.ensures m a, c.in_ok-right-in-Told.ensures m a)
    (sides_instance f c.in-Told.op (view c.in-Told.left) (view c.in-Told.right) ∙ ap (λ g. goal_instance f (goal_view g)) (sym c.in-Told.is))
