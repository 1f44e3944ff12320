use Rattle.std.proofs.Common.{◌<◌, arith}
use Rattle.chr_rules.specs.ProgramView.{checked_view}
use Rattle.chr_rules.proofs.Occurrences.{numbered, numbered_few, numbered_place, numbered_rule}
use Rattle.chr_rules.proofs.program.Program.occurrence.Goals as goal

pub returns-clause-found : goal.returns-clause-found
returns-clause-found g c =
    let some : 0 < c.args.number = omega arith in
    let at = numbered (checked_view c.args.self.now).rules c.args.sym.0 c.args.number c.occurrences-places.result.now (record { rule = 0; place = 0 }) c.occurrences-places.ensures some (omega arith) in
    rw (at.found, at.as_pair)

pub returns-clause-rule : goal.returns-clause-rule
returns-clause-rule g c =
    let some : 0 < c.args.number = omega arith in
    numbered_rule _ _ _ _ (numbered (checked_view c.args.self.now).rules c.args.sym.0 c.args.number c.occurrences-places.result.now (record { rule = 0; place = 0 }) c.occurrences-places.ensures some (omega arith))

pub returns-clause-place : goal.returns-clause-place
returns-clause-place g c =
    let some : 0 < c.args.number = omega arith in
    numbered_place _ _ _ _ (numbered (checked_view c.args.self.now).rules c.args.sym.0 c.args.number c.occurrences-places.result.now (record { rule = 0; place = 0 }) c.occurrences-places.ensures some (omega arith))

pub returns-clause-few : goal.returns-clause-few
returns-clause-few g c = omega (arith, numbered_few (checked_view c.args.self.now).rules c.args.sym.0 c.occurrences-places.result.now c.occurrences-places.ensures, c.args.self.now.few)
