-- A firing of the constraint that is active on top of the stack, as a transition.
use Rattle.std.proofs.Common.{◌≡◌, ◌≤◌, ◌∙◌, ◌++◌, ◌∷◌, ℕ, List, Some, ap, cond, drop, false, length, map, nat_lt, subst, sym}
use Rattle.chr_semantics.specs.Footprint.{IsSound}
use Rattle.chr_semantics.specs.Search.{fired_before, firing, ids_of}
use Rattle.chr_semantics.specs.State.{Element, active, goal, resolved_atom, status_at}
use Rattle.chr_rules.specs.RuleView.{goal_view, rule_view}
use Rattle.chr_trace.specs.State.{stack_view, status_view}
use Rattle.chr_machine.specs.Ready.{CanFire, IsOnTop}
use Rattle.chr_machine.specs.Firing.{AreFired, IsPrepared, Turns, atom_at, fired_base, firing_line, search_in, top_at}
use Rattle.chr_machine.specs.Model.{CourseModel, Model, course_of, logged, model_of, model_with, state_in}
use Rattle.chr_machine.specs.Step.{CanMove, CanStep, Makes}
use Rattle.chr_machine.specs.declared.course.Course.{Course}
use Rattle.chr_machine.specs.declared.execution.Execution.{Execution}
use Rattle.chr_machine.specs.declared.turning.ActiveConstraint.{ActiveConstraint}
use Rattle.chr_machine.specs.declared.turning.Firing.{Firing}
use Rattle.chr_machine.specs.declared.turning.Turn.{Turn}
use Rattle.chr_machine.specs.declared.turning.Turn.TheVariants.{Fires}
use Rattle.chr_machine.proofs.Firings.{fired_course, fired_makes, fired_stack}
use Rattle.chr_machine.proofs.Models.{can_move, makes_by}

module _ {A : Type 0} (old new : Execution A) (f : Firing A) (can : CanStep (model_of old)) (at : IsOnTop f old) where
  abbrev keeps : List Element → List Element
  keeps es = cond (nat_lt f.active.place (rule_view f.active.rule.now).kept) es (drop 1 es)

  pub fired : stack_view new.stack.items ≡ map (λ g. goal (goal_view g)) f.goals.items ++ keeps (stack_view old.stack.items) → status_view new.status ≡ status_at (stack_view new.stack.items) → AreFired f old.course (course_of new.course) → Makes (model_of old) (model_of new)
  fired stack status course =
      let c = course_of old.course in
      let x = at.fires.constraint in
      let p = at.fires.prepared in
      let rule = rule_view f.active.rule.now in
      let place = f.active.place in
      let i = x.id.0 in
      let j = x.occurrence in
      let a = atom_at x in
      let t = p.is.rows in
      let es = fired_stack c i j a f.active.number rule place t at.rest in
      let sound : IsSound (state_in (model_with (top_at x ∷ at.rest) (status_view old.status) c)) = subst (λ (es : List Element). IsSound (state_in (model_with es (status_view old.status) c))) at.top can.proper.sound in
      let ran : IsSound (state_in (model_with (top_at x ∷ at.rest) _ c)) = subst (λ w. IsSound (state_in (model_with (top_at x ∷ at.rest) w c))) can.runs sound in
      let found = subst (λ (k : ℕ). search_in c k j a ≡ firing f.active.number rule place t) p.id p.is.found in
      let shown : stack_view new.stack.items ≡ es = stack ∙ λ k. p.goals_are k ++ keeps (at.top k) in
      let is : course_of new.course ≡ fired_course c i j a f.active.number rule place t at.rest =
      course x p ∙ ap (λ (ids : List ℕ). logged (fired_base c.base f.active.number rule ids) (firing_line i j (resolved_atom c.base.subst a) rule place ids) c) (sym p.is.ids_are)
      in
      makes_by old new (top_at x ∷ at.rest) es (status_at es) _ at.top can.runs shown (status ∙ ap status_at shown) is
      (fired_makes c i j a f.active.number rule place t at.rest ran found (subst (λ (ids : List ℕ). fired_before c.base.entries.list f.active.number ids ≡ false) (sym p.is.ids_are) p.is.is_new) (subst (λ (ids : List ℕ). length ids ≤ 8) (sym p.is.ids_are) p.is.few))

module _ {A : Type 0} (old : Execution A) (x : ActiveConstraint A) (t : Turn A) (d : Course A) (f : Firing A) (can : CanStep (model_of old)) (is : t ≡ Fires f) (turned : Turns (course_of old.course) x t d) where
  pub ready : (course_of d ≡ course_of old.course) × IsPrepared x f d
  ready = subst (λ (u : Turn A). Turns (course_of old.course) x u d) is turned

  -- the firing that is ready can be made
  pub can_still : CanStep (model_with (stack_view old.stack.items) (status_view old.status) (course_of d))
  can_still = subst CanStep (λ k. model_with (stack_view old.stack.items) (status_view old.status) (sym ready.0 k)) can

  abbrev pub can_fire : (rest : List Element) → stack_view old.stack.items ≡ top_at x ∷ rest → CanFire f d
  can_fire rest stood = record {
    constraint = x;
    can = subst (λ (k : CourseModel). CanMove k (top_at x)) (sym ready.0) (can_move old (top_at x) rest can stood);
    prepared = ready.1;
  }
