use Rattle.std.proofs.Common.{◌∙◌, arith}
use Rattle.chr_trace.proofs.Stacks.{stack_put}
use Rattle.chr_machine.proofs.Woken.{elems_put}
use Rattle.chr_machine.proofs.stack.put_elems.Goals as goal

pub loop-elem-preserved : goal.loop-elem-preserved
loop-elem-preserved g c = record {
  same = c.loop-elem.invariant.same ∙ rw (c.push_reserved.ensures.items, stack_put, c.in-Some.ensures.items, elems_put);
  room = omega (arith, c.pop.ensures.len, c.in-Some.ensures.len);
}
