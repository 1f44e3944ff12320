use Rattle.std.proofs.Common.{◌∙◌}
use Rattle.chr_semantics.specs.Meaning.{head_from, scope}
use Rattle.chr_read.specs.SyntaxView.{head_view}
use Rattle.chr_rules.specs.Heads.{heads_of}
use Rattle.chr_rules.proofs.Turned.{turn_done}
use Rattle.chr_rules.proofs.goals.add_heads.Goals as goal

pub loop-head-preserved : goal.loop-head-preserved
loop-head-preserved g c = record {
  same = c.loop-head.invariant.same
      ∙ turn_done head_from head_view (scope c.loop-head.names c.loop-head.variables, heads_of c.loop-head.heads) (scope c.add_head.new.names c.add_head.new.variables, heads_of c.add_head.new.heads)
      c.args.written.now c.loop-head.head-index c.head-item.result c.loop-head-test.true c.head-item.is c.in_ok-add_head.ensures.head;
  flagged = c.in_ok-add_head.ensures.flagged;
}
