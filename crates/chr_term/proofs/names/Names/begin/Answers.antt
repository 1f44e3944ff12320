use Rattle.std.proofs.Common.{ap, arith, length, codes}
use Rattle.chr_term.proofs.FirstNames.{grown, seven}
use Rattle.chr_term.proofs.names.Names.begin.Goals as goal

pub intern-requires : goal.intern-requires
intern-requires g c = omega (arith, ap length c.requires)

pub intern-requires-2 : goal.intern-requires-2
intern-requires-2 g c = omega (arith, ap length c.requires, grown c.intern.new.self c.args.self.now (codes "[]") 0 c.in_ok-intern.ensures.ok)

pub intern-requires-3 : goal.intern-requires-3
intern-requires-3 g c = omega (arith, ap length c.requires, grown c.intern.new.self c.args.self.now (codes "[]") 0 c.in_ok-intern.ensures.ok, grown c.intern-2.new.self c.intern.new.self (codes "[|]") 2 c.in_ok-intern-2.ensures.ok)

pub intern-requires-4 : goal.intern-requires-4
intern-requires-4 g c = omega (arith, ap length c.requires, grown c.intern.new.self c.args.self.now (codes "[]") 0 c.in_ok-intern.ensures.ok, grown c.intern-2.new.self c.intern.new.self (codes "[|]") 2 c.in_ok-intern-2.ensures.ok, grown c.intern-3.new.self c.intern-2.new.self (codes "+") 2 c.in_ok-intern-3.ensures.ok)

pub intern-requires-5 : goal.intern-requires-5
intern-requires-5 g c = omega (arith, ap length c.requires, grown c.intern.new.self c.args.self.now (codes "[]") 0 c.in_ok-intern.ensures.ok, grown c.intern-2.new.self c.intern.new.self (codes "[|]") 2 c.in_ok-intern-2.ensures.ok, grown c.intern-3.new.self c.intern-2.new.self (codes "+") 2 c.in_ok-intern-3.ensures.ok, grown c.intern-4.new.self c.intern-3.new.self (codes "-") 2 c.in_ok-intern-4.ensures.ok)

pub intern-requires-6 : goal.intern-requires-6
intern-requires-6 g c = omega (arith, ap length c.requires, grown c.intern.new.self c.args.self.now (codes "[]") 0 c.in_ok-intern.ensures.ok, grown c.intern-2.new.self c.intern.new.self (codes "[|]") 2 c.in_ok-intern-2.ensures.ok, grown c.intern-3.new.self c.intern-2.new.self (codes "+") 2 c.in_ok-intern-3.ensures.ok, grown c.intern-4.new.self c.intern-3.new.self (codes "-") 2 c.in_ok-intern-4.ensures.ok, grown c.intern-5.new.self c.intern-4.new.self (codes "*") 2 c.in_ok-intern-5.ensures.ok)

pub intern-requires-7 : goal.intern-requires-7
intern-requires-7 g c = omega (arith, ap length c.requires, grown c.intern.new.self c.args.self.now (codes "[]") 0 c.in_ok-intern.ensures.ok, grown c.intern-2.new.self c.intern.new.self (codes "[|]") 2 c.in_ok-intern-2.ensures.ok, grown c.intern-3.new.self c.intern-2.new.self (codes "+") 2 c.in_ok-intern-3.ensures.ok, grown c.intern-4.new.self c.intern-3.new.self (codes "-") 2 c.in_ok-intern-4.ensures.ok, grown c.intern-5.new.self c.intern-4.new.self (codes "*") 2 c.in_ok-intern-5.ensures.ok, grown c.intern-6.new.self c.intern-5.new.self (codes "//") 2 c.in_ok-intern-6.ensures.ok)

pub returns : goal.returns
returns g c = seven _ _ _ _ _ _ _ _ c.requires c.in_ok-intern.ensures.ok c.in_ok-intern-2.ensures.ok c.in_ok-intern-3.ensures.ok c.in_ok-intern-4.ensures.ok c.in_ok-intern-5.ensures.ok c.in_ok-intern-6.ensures.ok c.in_ok-intern-7.ensures.ok
