use Rattle.std.proofs.Common.{ap, sym, ◌≡◌, ◌∙◌, subst}
use Rattle.std.proofs.lemmas.Result.{IfOk-weaker}
use Rattle.chr_semantics.specs.Snapshot.{snapshot_for}
use Rattle.chr_semantics.specs.Tasks.{guest, tasks}
use Rattle.chr_find.specs.SnapshotView.{IsSnapshot}
use Rattle.chr_trace.specs.State.{stack_view, status_view}
use Rattle.chr_machine.specs.Model.{CourseModel, course_of, model_of, model_with, state_in}
use Rattle.chr_machine.proofs.execution.Execution.snapshot.Goals as goal

pub returns-clause-shown : goal.returns-clause-shown
returns-clause-shown g c =
    let old = c.args.self.now in
    let m = model_of old in
    let same = c.begin_sharing.ensures.same in
    let again : model_with (stack_view old.stack.items) (status_view old.status) (course_of c.begin_sharing.new.self) ≡ m = λ k. model_with (stack_view old.stack.items) (status_view old.status) (same k) in
    let ts_are = c.in_ok-tasks.ensures ∙ (λ k. (let n : CourseModel = same k in tasks n.rules (state_in (again k)))) in
    let guest_is = c.guest.ensures ∙ (λ k. guest (state_in (again k))) in
    IfOk-weaker c.snapshot.result _ _
    (λ shared says. subst (IsSnapshot shared) (λ k. snapshot_for (state_in m) (ts_are k) (guest_is k))
    (says (state_in m) record {
      store = sym (ap (λ (k : CourseModel). k.base.store.rows) same);
      subst = sym (ap (λ (k : CourseModel). k.base.subst) same);
      history = sym (ap (λ (k : CourseModel). k.base.entries.list) same);
      next = sym (ap (λ (k : CourseModel). k.base.store.next_id) same);
    }))
    c.snapshot.ensures
