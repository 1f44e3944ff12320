use Rattle.std.proofs.Common.{subst, sym}
use Rattle.chr_semantics.specs.State.{start}
use Rattle.chr_rules.specs.ProgramView.{names_of, rules_of}
use Rattle.chr_rules.specs.RuleView.{query_view}
use Rattle.chr_look.specs.Profiling.{AreCosts}
use Rattle.chr_look.proofs.profile.watch_costs.Goals as goal

pub returns-clause-run : goal.returns-clause-run
returns-clause-run g c = c.in_ok-go_on.ensures.run (names_of c.args.program.now) (rules_of c.args.program.now) (query_view c.args.query) c.in_ok-watched.ensures.starts

pub returns-clause-watched : goal.returns-clause-watched
returns-clause-watched g c = c.in_ok-go_on.ensures.watched (rules_of c.args.program.now) (query_view c.args.query) c.in_ok-watched.ensures.watched

pub returns-clause-costs : goal.returns-clause-costs
returns-clause-costs g c =
    let p = rules_of c.args.program.now in
    let q = query_view c.args.query in
    let first = subst (λ k. AreCosts p (start q) k c.new-profile.result) (sym c.in_ok-watched.ensures.starts.steps_are) (c.new-profile.ensures p (start q)) in
    c.in_ok-go_on.ensures.noted p q c.in_ok-watched.ensures.watched first
