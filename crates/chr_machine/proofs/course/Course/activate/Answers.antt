use Rattle.std.proofs.Common.{◌≡◌, ◌∙◌, ap, subst, sym}
use Rattle.std.specs.Prelude.{Some, is_some}
use Rattle.chr_semantics.specs.Changes.{added}
use Rattle.chr_semantics.specs.Footprint.{Ascends}
use Rattle.chr_semantics.specs.State.{resolved_atom}
use Rattle.chr_semantics.specs.Text.{known_text}
use Rattle.chr_semantics.specs.Trace.{activates}
use Rattle.chr_rules.specs.ProgramView.{names_of}
use Rattle.chr_store.specs.Rows.{row_atom}
use Rattle.chr_term.specs.TermView.{atom_over}
use Rattle.chr_base.specs.Model.{BaseModel}
use Rattle.chr_base.specs.BaseView.{base_view, program_of}
use Rattle.chr_base.specs.declared.base.Base.{Base}
use Rattle.chr_machine.specs.Model.{CourseModel, course_of, line_in}
use Rattle.chr_machine.specs.declared.course.Shown.{Shown}
use Rattle.chr_machine.proofs.Courses.{logged_from, over, over_is}
use Rattle.chr_machine.proofs.ShownTexts.{of_next, resolved_of, shown_added}
use Rattle.chr_machine.proofs.course.Course.activate.Goals as goal

pub write_shown-requires : goal.write_shown-requires
write_shown-requires g c =
    let m = base_view c.args.self.now.base in
    let a = atom_over c.args.sym c.args.args.now in
    resolved_of m c.next-next.result.0 a (row_atom c.in_ok-row.row) (of_next m.store.rows m.store.next_id c.next-next.result.0 a c.requires.proper.sound.ascends (c.next-next.ensures ∙ ap (λ s. s.next_id) c.store.ensures)) c.in_ok-row.ensures

pub invariant_of-self : goal.invariant_of-self
invariant_of-self g c =
    let old = c.args.self.now in
    let t = c.draft_shown.new.self in
    let same = c.draft_shown.ensures.base ∙ c.write_shown.ensures.base in
    let shown = c.draft_shown.ensures.shown in
    let a = atom_over c.args.sym c.args.args.now in
    let next = c.next-next.ensures ∙ ap (λ s. s.next_id) c.store.ensures in
    let is = ap (λ (s : Shown g.row.A.Denot). s.id.0) shown ∙ c.in_ok-write_shown.ensures.id in
    let id = is ∙ (next ∙ ap (λ (b : Base g.row.A.Denot). (base_view b).store.next_id) (sym same)) in
    let vars = ap (λ (x : CourseModel). x.var_names) (c.draft_shown.ensures.same ∙ c.write_shown.ensures.same) in
    let row : row_atom c.in_ok-row.row ≡ resolved_atom (base_view t.base).subst a = c.in_ok-row.ensures ∙ ap (λ (b : Base g.row.A.Denot). resolved_atom (base_view b).subst a) (sym same) in
    let text = ap (λ (s : Shown g.row.A.Denot). s.text.items) shown ∙ (c.in_ok-write_shown.ensures.text ∙ (λ p. known_text (names_of (program_of (sym same p))) (sym vars p) (row p) (sym is p))) in
    let up = subst (λ (b : Base g.row.A.Denot). Ascends 0 (base_view b).store.rows (base_view b).store.next_id) (sym same) c.requires.proper.sound.ascends in
    record {
      shows = λ right. shown_added c.add.result (names_of (program_of t.base)) (names_of (program_of c.add.new.self)) t.var_names (base_view t.base) (base_view c.add.new.self) t.shown.id.0 a t.shown.text.items up (ap names_of c.add.ensures.program) id text
          c.add.ensures.ok c.add.ensures.err (t.shows right);
    }

pub returns-clause-ok : goal.returns-clause-ok
returns-clause-ok g c =
    let old = c.args.self.now in
    let k = course_of old in
    let w = c.write_shown.new.self in
    let t = c.draft_shown.new.self in
    let a = atom_over c.args.sym c.args.args.now in
    let next = c.next-next.ensures ∙ ap (λ s. s.next_id) c.store.ensures in
    let same = c.draft_shown.ensures.base ∙ c.write_shown.ensures.base in
    let vars = ap (λ (x : CourseModel). x.var_names) c.write_shown.ensures.same in
    let text = c.in_ok-write_shown.ensures.text ∙ (λ p. known_text (names_of (program_of (sym c.write_shown.ensures.base p))) (sym vars p) (row_atom c.in_ok-row.row) c.next-next.result.0) in
    let m : BaseModel = record k.base { store = added k.base.store a } in
    let base : base_view c.add.new.self ≡ m = c.in_ok-id.ensures.ok ∙ ap (λ (b : Base g.row.A.Denot). record (base_view b) { store = added (base_view b).store a }) same in
    logged_from k (over t c.add.new.self) (course_of c.log.new.self) m t.lines.draft (activates (resolved_atom k.base.subst a) k.base.store.next_id)
    (over_is t c.add.new.self m c.add.ensures.program base ∙ ap (λ (x : CourseModel). record x { base = m }) (c.draft_shown.ensures.same ∙ c.write_shown.ensures.same))
    (c.in_ok-draft_shown.ensures.line (row_atom c.in_ok-row.row) c.next-next.result.0 text ∙ (λ p. Some (line_in (c.write_shown.ensures.same p) (activates (c.in_ok-row.ensures p) (next p)))))
    c.log.ensures

pub log-requires-clause-drafted : goal.log-requires-clause-drafted
log-requires-clause-drafted g c =
    let vars = ap (λ (x : CourseModel). x.var_names) c.write_shown.ensures.same in
    let text = c.in_ok-write_shown.ensures.text ∙ (λ p. known_text (names_of (program_of (sym c.write_shown.ensures.base p))) (sym vars p) (row_atom c.in_ok-row.row) c.next-next.result.0) in
    ap is_some (c.in_ok-draft_shown.ensures.line (row_atom c.in_ok-row.row) c.next-next.result.0 text)
