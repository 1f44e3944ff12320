use Rattle.std.proofs.Common.{arith}
use Rattle.chr_suspicions.proofs.Sums.{of_few, of_many, of_two_from}
use Rattle.chr_suspicions.proofs.arithmetic.is_arithmetic.Goals as goal

pub returns-then-sym : goal.returns-then-sym
returns-then-sym g c = of_two_from c.args.sym.0 c.args.args.now (omega arith) c.if-sym.true

pub returns-in_default : goal.returns-in_default
returns-in_default g c = of_few c.args.sym.0 c.args.args.now (omega arith)

pub returns-in_default-2 : goal.returns-in_default-2
returns-in_default-2 g c = of_many c.args.sym.0 c.args.args.now (omega arith)
