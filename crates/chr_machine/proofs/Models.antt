-- What executions show, and what their steps need.
use Rattle.std.proofs.Common.{◌≡◌, ◌∙◌, ◌<◌, ◌∷◌, [], ℕ, List, ap, arith, length, map, subst, sym}
use Rattle.chr_semantics.specs.State.{Element, Status, running}
use Rattle.chr_trace.specs.State.{stack_view, status_view}
use Rattle.chr_trace.specs.declared.state.Elem.{Elem}
use Rattle.chr_trace.proofs.Stacks.{length-stack}
use Rattle.chr_machine.specs.Model.{CourseModel, Model, course_of, model_of, model_with, state_in}
use Rattle.chr_machine.specs.Step.{CanMove, CanStep, IsCounted, IsProper, IsSteady, Makes}
use Rattle.chr_machine.specs.declared.execution.Execution.{Execution}

module _ {A : Type 0} (old new : Execution A) where
  -- a transition, by what was on the stack of a running execution, and what there is now
  pub makes_by : (es fs : List Element) (w : Status) (d : CourseModel) → stack_view old.stack.items ≡ es → status_view old.status ≡ running → stack_view new.stack.items ≡ fs → status_view new.status ≡ w → course_of new.course ≡ d
      → Makes (model_with es running (course_of old.course)) (model_with fs w d) → Makes (model_of old) (model_of new)
  makes_by es fs w d stood ran stack status course makes =
      let before : model_of old ≡ model_with es running (course_of old.course) = λ k. model_with (stood k) (ran k) (course_of old.course) in
      let after : model_of new ≡ model_with fs w d = λ k. model_with (stack k) (status k) (course k) in
      subst (λ (m : Model). Makes m (model_of new)) (sym before) (subst (Makes (model_with es running (course_of old.course))) (sym after) makes)

-- as many elements as there are to be seen
same_length : {A : Type 0} (es fs : List (Elem A)) → stack_view es ≡ stack_view fs → length es ≡ length fs
same_length es fs same =
    let seen : Element → List ℕ = λ e. [] in
    omega (arith, length-stack seen es, length-stack seen fs, ap (λ (xs : List Element). length (map seen xs)) same)

-- there is a top where one is seen
pub has_top : {A : Type 0} (es : List (Elem A)) (top : Element) (rest : List Element) → stack_view es ≡ top ∷ rest → 0 < length es
has_top es top rest is =
    let seen : Element → List ℕ = λ e. [] in
    omega (arith, length-stack seen es, ap (λ (xs : List Element). length (map seen xs)) is)

-- and none where none is
pub no_top : {A : Type 0} (es : List (Elem A)) → stack_view es ≡ [] → length es ≡ 0
no_top es is =
    let seen : Element → List ℕ = λ e. [] in
    omega (arith, length-stack seen es, ap (λ (xs : List Element). length (map seen xs)) is)

-- what a transition needs below the stack
pub can_move : {A : Type 0} (e : Execution A) (top : Element) (rest : List Element) → CanStep (model_of e) → stack_view e.stack.items ≡ top ∷ rest → CanMove (course_of e.course) top
can_move e top rest h at = record {
  rest = rest;
  few = h.few;
  changes = h.changes;
  proper = subst (λ (m : Model). IsProper m.rules (state_in m)) (λ k. model_with (at k) (h.runs k) (course_of e.course)) h.proper;
}

-- where nothing that shows has changed, what held goes on to hold
pub steady_same : {A : Type 0} (old new : Execution A) → model_of new ≡ model_of old → IsSteady old → IsSteady new
steady_same old new same h = record {
  ready = λ runs.
      let some = h.ready (sym (ap (λ (m : Model). m.status) same) ∙ runs) in
      let lengths = same_length new.stack.items old.stack.items (ap (λ (m : Model). m.stack) same) in
      omega (arith, some, lengths, old.stack.ok.0, new.stack.ok.0);
  counted = subst IsCounted (sym same) h.counted;
  proper = subst (λ (m : Model). IsProper m.rules (state_in m)) (sym same) h.proper;
}
