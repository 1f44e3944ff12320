use Rattle.std.proofs.Common.{sym}
use Rattle.chr_bind.proofs.Values.{node_value-other}
use Rattle.chr_bind.proofs.arithmetic.+value.Goals as goal

pub evaluate_node-returns-in-None : goal.evaluate_node-returns-in-None
evaluate_node-returns-in-None g t c = sym (node_value-other c.args.sym.0 c.args.args.now c.in-None.ensures)
