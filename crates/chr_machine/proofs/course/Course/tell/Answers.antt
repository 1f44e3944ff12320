use Rattle.std.proofs.Common.{◌≡◌, ◌∙◌, ap, subst, sym}
use Rattle.std.specs.Prelude.{None}
use Rattle.std.proofs.lemmas.Result.{on_ok_weaker}
use Rattle.chr_bind.specs.declared.bindings.Unified.{Unified}
use Rattle.chr_rules.specs.RuleView.{goal_view}
use Rattle.chr_semantics.specs.Mgu.{mgu}
use Rattle.chr_semantics.specs.State.{failed}
use Rattle.chr_semantics.specs.Step.{bind_step}
use Rattle.chr_semantics.specs.Trace.{solve_line, solves}
use Rattle.chr_store.specs.Numbers.{numbers}
use Rattle.chr_term.specs.TermView.{view}
use Rattle.chr_trace.specs.declared.state.Status.TheVariants.{Failed}
use Rattle.chr_base.specs.BaseView.{base_view}
use Rattle.chr_base.specs.Model.{BaseModel}
use Rattle.chr_base.specs.Told.{IsTold}
use Rattle.chr_machine.specs.Model.{CourseModel, course_of, logged}
use Rattle.chr_machine.specs.Solving.{Tells, shown, with_goal}
use Rattle.chr_machine.specs.declared.solving.Solved.TheVariants.{Holds}
use Rattle.chr_machine.proofs.Courses.{logged_from}
use Rattle.chr_machine.proofs.Solved.{ends_so, told}
use Rattle.chr_machine.proofs.course.Course.tell.Goals as goal

pub returns-in-Same-clause-ok : goal.returns-in-Same-clause-ok
returns-in-Same-clause-ok g c =
    let k = course_of c.args.self.now in
    let w = goal_view c.args.goal.now in
    let t = view c.args.left.now in
    let u = view c.args.right.now in
    let ids = numbers c.args.ids.now in
    let b = base_view c.bind.new.self.base in
    let base : base_view c.draft_solve.new.self.base ≡ k.base = ap base_view c.draft_solve.ensures.base in
    let mid : course_of c.bind.new.self ≡ record k { base = b } = c.bind.ensures.course ∙ ap (λ (x : CourseModel). record x { base = b }) c.draft_solve.ensures.same in
    let drafted = ap (λ ls. ls.draft) c.bind.ensures.lines ∙ c.in_ok-draft_solve.ensures.line in
    let is = logged_from k (course_of c.bind.new.self) (course_of c.log.new.self) b c.bind.new.self.lines.draft (solves (shown k w)) mid drafted c.log.ensures in
    let said = subst (λ (m : BaseModel). IsTold t u ids c.in_ok-bind.field-0 m b) base c.in_ok-bind.ensures.told in
    subst (λ (d : CourseModel). Tells w k Holds d t u) (sym is) (told w k t u ids c.in_ok-bind.field-0 b c.requires.can.ids_are c.in-Same.is said)

pub returns-in-Clash-clause-ok : goal.returns-in-Clash-clause-ok
returns-in-Clash-clause-ok g c =
    let k = course_of c.args.self.now in
    let w = goal_view c.args.goal.now in
    let t = view c.args.left.now in
    let u = view c.args.right.now in
    let b = base_view c.bind.new.self.base in
    let base : base_view c.draft_solve.new.self.base ≡ k.base = ap base_view c.draft_solve.ensures.base in
    let clash = subst (λ (v : Unified). IsTold t u (numbers c.args.ids.now) v (base_view c.draft_solve.new.self.base) b) c.in-Clash.is c.in_ok-bind.ensures.told in
    let none : mgu k.base.subst t u ≡ None = subst (λ (m : BaseModel). mgu m.subst t u ≡ None) base clash.0 in
    let mid : course_of c.bind.new.self ≡ k = c.bind.ensures.course ∙ (ap (λ (x : CourseModel). record x { base = b }) c.draft_solve.ensures.same ∙ ap (λ (m : BaseModel). record k { base = m }) (clash.1 ∙ base)) in
    ends_so c.end.result w k (course_of c.end.new.self) Failed (λ rest. bind_step (with_goal w rest k) rest (mgu k.base.subst t u)) (λ rest. ap (λ o. bind_step (with_goal w rest k) rest o) none) c.end.ensures.ends
    (on_ok_weaker c.end.result (λ h. h ∙ ap (λ (x : CourseModel). logged x.base (solve_line (shown x w) failed) x) mid) c.end.ensures.ok)
