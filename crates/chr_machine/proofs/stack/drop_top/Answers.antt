use Rattle.std.proofs.Common.{arith}
use Rattle.chr_machine.proofs.Stacks.{popped}
use Rattle.chr_machine.proofs.stack.drop_top.Goals as goal

pub returns-clause-view : goal.returns-clause-view
returns-clause-view g c = popped c.args.stack.now.items c.pop-top.new.self.items c.pop-top.result c.pop-top.ensures.items (λ h. c.pop-top.ensures.variant.1 (omega (arith, h, c.args.stack.now.ok.0)))
