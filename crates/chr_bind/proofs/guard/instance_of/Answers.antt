use Rattle.std.proofs.Common.{ap}
use Rattle.chr_term.specs.TermView.{view}
use Rattle.chr_bind.proofs.Instances.{instance_free, instance_matched}
use Rattle.chr_bind.proofs.guard.instance_of.Goals as goal

pub returns-in-Some : goal.returns-in-Some
returns-in-Some g c m h =
    instance_matched c.args.matching.now m c.in-Var.x (view c.args.pattern.now) c.get.result c.in-Some.matched h (ap view c.in-Var.is) c.get.ensures c.in-Some.is

pub returns-in-None : goal.returns-in-None
returns-in-None g c m h =
    instance_free c.args.matching.now m c.in-Var.x (view c.args.pattern.now) c.get.result h (ap view c.in-Var.is) c.get.ensures c.in-None.is
