use Rattle.std.proofs.Common.{arith}
use Rattle.std.proofs.lemmas.List.{length-map}
use Rattle.chr_rules.specs.RuleView.{rule_view}
use Rattle.chr_rules.proofs.Bounded.{bounded_at}
use Rattle.chr_rules.proofs.program.Program.rule.Goals as goal

pub returns-clause-bounded : goal.returns-clause-bounded
returns-clause-bounded g c = bounded_at c.args.self.now.rules.items c.args.k c.index.result.now (omega (arith, c.requires, length-map c.args.self.now.rules.items rule_view)) c.index.ensures c.args.self.now.bounded
