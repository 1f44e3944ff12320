use Rattle.std.proofs.Common.{sym}
use Rattle.chr_semantics.specs.Meaning.{scope}
use Rattle.chr_rules.proofs.Called.{test_of_many}
use Rattle.chr_rules.proofs.goals.test_of.Goals as goal

pub returns-in-len2-up : goal.returns-in-len2-up
returns-in-len2-up g c = sym (test_of_many (scope c.args.names.now c.args.variables.now) c.args.name.now c.args.args.now c.in-len2-up.len_at_least)
