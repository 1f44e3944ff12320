use Rattle.std.proofs.Common.{◌≡◌, ◌∙◌, ap, subst, sym}
use Rattle.std.specs.Prelude.{Some}
use Rattle.chr_semantics.specs.State.{resolved_atom}
use Rattle.chr_rules.specs.RuleView.{rule_view}
use Rattle.chr_base.specs.BaseView.{base_view}
use Rattle.chr_machine.specs.Firing.{IsFiring, atom_at, firing_line}
use Rattle.chr_machine.specs.Model.{CourseModel, line_in}
use Rattle.chr_machine.proofs.Courses.{over_is}
use Rattle.chr_machine.proofs.course.Course.prepare.Goals as goal

pub returns-clause-same : goal.returns-clause-same
returns-clause-same g c = c.draft.ensures.same ∙ over_is c.args.self.now c.freshen.new.self (base_view c.args.self.now.base) c.freshen.ensures.program c.freshen.ensures.same

pub returns-clause-ok : goal.returns-clause-ok
returns-clause-ok g c =
    let s = c.args.at in
    let x = c.args.active.now in
    let r = rule_view s.rule.now in
    let f = subst (λ (k : CourseModel). IsFiring k s x.occurrence (atom_at x) c.args.ids.now) (sym (returns-clause-same g c)) c.requires.is in
    record {
      id = c.requires.id;
      is = f;
      goals_are = c.in_ok-goals.ensures f.rows f.ids_are f.standing f.matched f.fit;
      drafted = c.in_ok-draft.ensures.line ∙ (λ k. Some (line_in (sym c.draft.ensures.same k) (firing_line x.id.0 x.occurrence (resolved_atom (base_view (sym c.draft.ensures.base k)).subst (atom_at x)) (record r { label = c.as_str.ensures.value k }) s.place (c.as_slice.ensures.ids k))));
    }
