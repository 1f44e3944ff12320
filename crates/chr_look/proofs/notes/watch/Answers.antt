use Rattle.chr_rules.specs.ProgramView.{names_of, rules_of}
use Rattle.chr_rules.specs.RuleView.{query_view}
use Rattle.chr_look.proofs.notes.watch.Goals as goal

pub returns-clause-run : goal.returns-clause-run
returns-clause-run g c = c.in_ok-go_on.ensures.run (names_of c.args.program.now) (rules_of c.args.program.now) (query_view c.args.query) c.in_ok-watched.ensures.starts

pub returns-clause-watched : goal.returns-clause-watched
returns-clause-watched g c = c.in_ok-go_on.ensures.watched (rules_of c.args.program.now) (query_view c.args.query) c.in_ok-watched.ensures.watched
