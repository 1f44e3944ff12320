use Rattle.std.proofs.Common.{◌∙◌, ap, option_map}
use Rattle.std.proofs.lemmas.Result.{IfOk-weaker}
use Rattle.chr_semantics.specs.Program.{Program, occurrence}
use Rattle.chr_rules.specs.Index.{pair_of}
use Rattle.chr_rules.specs.ProgramView.{rules_of}
use Rattle.chr_store.specs.declared.id.Id.{Id}
use Rattle.chr_base.specs.Model.{rows_of}
use Rattle.chr_machine.specs.Model.{course_of}
use Rattle.chr_machine.proofs.Searched.{occurs_there}
use Rattle.chr_machine.proofs.TriedOnTop.{at_none, at_occurrence}
use Rattle.chr_machine.proofs.course.Course.tries.Goals as goal

pub returns-in-None-clause-tries : goal.returns-in-None-clause-tries
returns-in-None-clause-tries g c =
    let k = course_of c.args.self.now in
    let none = c.in-None.ensures.found ∙ ap (λ (p : Program). option_map pair_of (occurrence p c.args.sym.0 c.args.number)) (ap rules_of c.program-program.ensures) in
    at_none (rows_of k.base) k.base.entries.list c.args.id.0 (occurrence k.rules c.args.sym.0 c.args.number) pair_of c.nothing.result c.nothing.ensures.lists c.nothing.ensures.partial none

pub returns-in-Some-clause-tries : goal.returns-in-Some-clause-tries
returns-in-Some-clause-tries g c =
    let k = course_of c.args.self.now in
    let s = c.at-at.result in
    let occurs = occurs_there (rules_of c.program-program.result.now) k.rules c.args.sym.0 c.args.number (ap rules_of c.program-program.ensures) c.in-Some.found s c.in-Some.ensures.found c.at-at.ensures.rule c.at-at.ensures.number c.at-at.ensures.place in
    IfOk-weaker c.tries.result _ _
    (λ n e. at_occurrence (rows_of k.base) k.base.entries.list c.args.id.0 (occurrence k.rules c.args.sym.0 c.args.number) s n occurs (ap (λ (i : Id). i.0) c.at-at.ensures.id) e)
    c.tries.ensures.tries
