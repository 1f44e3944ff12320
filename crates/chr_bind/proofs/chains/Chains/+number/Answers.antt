use Rattle.std.proofs.Common.{sym}
use Rattle.chr_semantics.specs.Subst.{value_at}
use Rattle.chr_bind.specs.Chains.{subst_of}
use Rattle.chr_bind.proofs.Values.{instances_value-other}
use Rattle.chr_bind.proofs.chains.Chains.+number.Goals as goal

pub node_number-returns-in-None : goal.node_number-returns-in-None
node_number-returns-in-None g t c = sym (instances_value-other (value_at (subst_of c.args.self.now)) c.args.sym.0 c.args.args.now c.in-None.ensures)
