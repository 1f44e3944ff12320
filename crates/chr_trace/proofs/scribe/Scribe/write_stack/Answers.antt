use Rattle.std.specs.Prelude.{codes}
use Rattle.chr_trace.specs.ScribeView.{element_by}
use Rattle.chr_trace.proofs.Bodies.{part_written}
use Rattle.chr_trace.proofs.Stacks.{length-stack}
use Rattle.chr_trace.proofs.scribe.Scribe.write_stack.Goals as goal

pub returns-clause-ok : goal.returns-clause-ok
returns-clause-ok g c =
    part_written c.write_elems.result c.args.out.now.items c.write_head.new.out.items c.write_elems.new.out.items (codes "stack ") _ _ c.in_ok-write_head.ensures.ok c.write_elems.ensures.ok
    (length-stack (element_by c.args.self.now) c.args.stack.now)
