use Rattle.std.proofs.Common.{arith}
use Rattle.chr_rules.proofs.Pushed.{heads_pushed}
use Rattle.chr_rules.proofs.goals.push_head.Goals as goal

pub returns-clause-head : goal.returns-clause-head
returns-clause-head g c =
    rw (c.in_ok-push-2.ensures.items, c.in_ok-push.ensures.items) (heads_pushed c.args.heads.now.passive.items c.args.passive 0 c.args.heads.now.atoms.items (c.args.sym, c.args.args) (omega (arith, c.requires)))
