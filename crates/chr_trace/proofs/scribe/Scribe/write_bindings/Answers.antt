use Rattle.std.specs.Prelude.{codes}
use Rattle.chr_trace.proofs.Bodies.{part_written}
use Rattle.chr_trace.proofs.scribe.Scribe.write_bindings.Goals as goal

pub returns-clause-ok : goal.returns-clause-ok
returns-clause-ok g c =
    part_written c.write_bound.result c.args.out.now.items c.write_head.new.out.items c.write_bound.new.out.items (codes "bindings ") _ _ c.in_ok-write_head.ensures.ok c.write_bound.ensures.ok c.count_bound.ensures
