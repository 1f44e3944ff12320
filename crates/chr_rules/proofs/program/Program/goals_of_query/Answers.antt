use Rattle.std.proofs.Common.{refl}
use Rattle.chr_read.specs.SyntaxView.{query_view}
use Rattle.chr_rules.specs.ProgramView.{checked_view}
use Rattle.chr_rules.specs.RuleView.{query_view as asked_view, rules_view}
use Rattle.chr_rules.proofs.Bounded.{query_bounded}
use Rattle.chr_rules.proofs.Placed.{err_maps}
use Rattle.chr_rules.proofs.QueriesOf.{query_of_itself}
use Rattle.chr_rules.proofs.Turned.{ok_answers}
use Rattle.chr_rules.proofs.program.Program.goals_of_query.Goals as goal

pub returns-clause-accepted : goal.returns-clause-accepted
returns-clause-accepted g c = ok_answers _ _ c.query.result (λ q h. h (rules_view c.args.self.now.rules.items)) c.query.ensures.accepted

pub returns-clause-refused : goal.returns-clause-refused
returns-clause-refused g c = err_maps _ _ c.query.result (λ e h. h (rules_view c.args.self.now.rules.items)) c.query.ensures.refused

pub returns-clause-bounded : goal.returns-clause-bounded
returns-clause-bounded g c =
    ok_answers _ _ c.query.result (λ q h. query_bounded (checked_view c.args.self.now) (query_view c.args.syntax) c.query.new.names (asked_view q) (h (rules_view c.args.self.now.rules.items))) c.query.ensures.accepted

pub returns-clause-made : goal.returns-clause-made
returns-clause-made g c =
    let before = checked_view c.args.self.now in
    ok_answers _ _ c.query.result (λ q h. query_of_itself before (record before { names = c.query.new.names }) (query_view c.args.syntax) (asked_view q) refl refl (h before.rules)) c.query.ensures.accepted
