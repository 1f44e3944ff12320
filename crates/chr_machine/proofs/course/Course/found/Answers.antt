use Rattle.std.proofs.Common.{◌≡◌, ◌∙◌, ap, sym}
use Rattle.std.specs.Prelude.{is_some}
use Rattle.std.proofs.lemmas.Result.{IfOk-weaker}
use Rattle.chr_semantics.specs.Changes.{Store}
use Rattle.chr_semantics.specs.Search.{atom_of, ids_found}
use Rattle.chr_semantics.proofs.OccurrenceRule.{occurrence_rule}
use Rattle.chr_base.specs.Searching.{FindsFirst}
use Rattle.chr_base.specs.BaseView.{base_view}
use Rattle.chr_base.specs.Searching.{occurrence_of}
use Rattle.chr_machine.specs.Firing.{atom_at, search_in}
use Rattle.chr_machine.specs.Model.{course_of}
use Rattle.chr_machine.proofs.Searched.{dead_found, own_found}
use Rattle.chr_machine.proofs.course.Course.found.Goals as goal

pub returns-then-not-alive-clause-found : goal.returns-then-not-alive-clause-found
returns-then-not-alive-clause-found g c =
    let s = c.args.at.now in
    dead_found (course_of c.args.self.now) s c.args.active.now c.requires.at (ap (λ (st : Store). is_some (atom_of st.rows s.id.0)) (sym c.store.ensures) ∙ (sym c.alive.ensures ∙ c.if-not-alive.true))

pub search-requires : goal.search-requires
search-requires g c =
    let x = c.args.active.now in
    record { of_program = occurrence_rule (course_of c.args.self.now).rules x.sym.0 x.occurrence (occurrence_of c.args.at.now) c.requires.at.occurs }

pub returns-in-Missing-clause-found : goal.returns-in-Missing-clause-found
returns-in-Missing-clause-found g c =
    let k = course_of c.args.self.now in
    let s = c.args.at.now in
    let x = c.args.active.now in
    let lives = ap (λ (st : Store). is_some (atom_of st.rows s.id.0)) (sym c.store.ensures) ∙ (sym c.alive.ensures ∙ c.if-not-alive.false) in
    IfOk-weaker c.search.result (λ found. FindsFirst k.base s found) (λ found. found ≡ ids_found (search_in k s.id.0 x.occurrence (atom_at x))) (λ found h. own_found k s x c.requires.at lives found h) c.search.ensures.found
