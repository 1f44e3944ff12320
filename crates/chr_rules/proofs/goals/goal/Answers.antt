use Rattle.std.proofs.Common.{◌∙◌, ap, sym}
use Rattle.chr_semantics.specs.Meaning.{goal_from, scope, relation_goal}
use Rattle.chr_tokens.specs.TokenView.{relation_view}
use Rattle.chr_read.specs.SyntaxView.{item_view}
use Rattle.chr_rules.proofs.goals.goal.Goals as goal

pub returns-in_ok-left-in-Related-clause-goal : goal.returns-in_ok-left-in-Related-clause-goal
returns-in_ok-left-in-Related-clause-goal g c =
    ap (λ x. (scope c.sides.new.names c.sides.new.variables, x)) c.relation_goal.ensures
    ∙ ap (λ q. (q.0, relation_goal (relation_view c.in-Related.relation) q.1.0 q.1.1)) c.in_ok-left-in-Related.ensures.sides
    ∙ ap (λ i. goal_from (scope c.args.names.now c.args.variables.now) (item_view i)) (sym c.in-Related.is)
