use Rattle.std.proofs.Common.{arith}
use Rattle.chr_base.specs.Bodies.{rule_in}
use Rattle.chr_base.proofs.Variables.{free_stays, matched_copied}
use Rattle.chr_base.proofs.body.Body.variable.Goals as goal

pub returns-in-Some : goal.returns-in-Some
returns-in-Some g c =
    matched_copied c.args.self.now.matching.now (rule_in c.args.self.now) c.args.self.now.next c.args.var c.get.result c.copy.result c.in-Some.matched (omega (arith, c.if-var-head_vars.false, c.head_vars-head_vars.ensures)) c.get.ensures c.in-Some.is c.copy.ensures

pub returns-in-None : goal.returns-in-None
returns-in-None g c m a =
    free_stays c.args.self.now.matching.now (rule_in c.args.self.now) c.args.self.now.next c.args.var c.get.result m (omega (arith, c.if-var-head_vars.false, c.head_vars-head_vars.ensures)) a c.get.ensures c.in-None.is
