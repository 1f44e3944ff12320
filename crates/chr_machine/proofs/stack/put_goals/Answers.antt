use Rattle.std.proofs.Common.{◌∙◌, arith}
use Rattle.chr_trace.proofs.Stacks.{stack_put, goals_put}
use Rattle.chr_machine.proofs.stack.put_goals.Goals as goal

pub loop-goal-preserved : goal.loop-goal-preserved
loop-goal-preserved g c = record {
  same = c.loop-goal.invariant.same ∙ rw (c.push_reserved.ensures.items, stack_put, c.in-Some.ensures.items, goals_put);
  room = omega (arith, c.pop.ensures.len, c.in-Some.ensures.len);
}
