use Rattle.std.proofs.Common.{◌∙◌, ap, refl, subst, sym}
use Rattle.chr_semantics.specs.State.{resolved_atom}
use Rattle.chr_semantics.specs.Trace.{defaults}
use Rattle.chr_rules.specs.ProgramView.{rules_of}
use Rattle.chr_store.specs.declared.id.Id.{Id}
use Rattle.chr_machine.specs.Firing.{IsFiring, atom_at}
use Rattle.chr_machine.specs.Model.{CourseModel, course_of, logged}
use Rattle.chr_machine.proofs.Searched.{firing_found, nothing_found, searched_is, stands}
use Rattle.chr_machine.proofs.course.Course.turn.Goals as goal

pub found-requires-clause-at : goal.found-requires-clause-at
found-requires-clause-at g c = stands (course_of c.args.self.now) c.args.active.now (rules_of c.program-program.result.now) (ap rules_of c.program-program.ensures) c.in-Some.found c.at-at.result c.in-Some.ensures.found c.at-at.ensures.rule c.at-at.ensures.number c.at-at.ensures.place (ap (λ (i : Id). i.0) c.at-at.ensures.id)

pub prepare-requires-clause-is : goal.prepare-requires-clause-is
prepare-requires-clause-is g c =
    let k = course_of c.args.self.now in
    let x = c.args.active.now in
    let s = c.at-at.result in
    let at = stands k x (rules_of c.program-program.result.now) (ap rules_of c.program-program.ensures) c.in-Some.found s c.in-Some.ensures.found c.at-at.ensures.rule c.at-at.ensures.number c.at-at.ensures.place (ap (λ (i : Id). i.0) c.at-at.ensures.id) in
    subst (λ (m : CourseModel). IsFiring m s x.occurrence (atom_at x) c.in-Some-ids.ids) (sym c.found.ensures.same)
    (firing_found k s x at c.requires.can.proper.sound.ascends c.requires.can.proper.bounded c.in-Some-ids.ids (sym c.in-Some-ids.is ∙ c.in_ok-ids.ensures.found))

pub returns-in_ok-write_line-in-None-clause-ok : goal.returns-in_ok-write_line-in-None-clause-ok
returns-in_ok-write_line-in-None-clause-ok g c =
    let k = course_of c.args.self.now in
    let x = c.args.active.now in
    let s = c.at-at.result in
    let at = stands k x (rules_of c.program-program.result.now) (ap rules_of c.program-program.ensures) c.in-Some.found s c.in-Some.ensures.found c.at-at.ensures.rule c.at-at.ensures.number c.at-at.ensures.place (ap (λ (i : Id). i.0) c.at-at.ensures.id) in (
      refl,
      sym (searched_is k s x at) ∙ nothing_found k s x at (sym c.in-None.is ∙ c.in_ok-ids.ensures.found),
      c.in_ok-write_line-in-None.ensures.ok ∙ ap (λ (m : CourseModel). logged m.base (defaults (resolved_atom m.base.subst (atom_at x)) x.id.0 x.occurrence) m) c.found.ensures.same,
    )
