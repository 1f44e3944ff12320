use Rattle.std.proofs.Common.{◌≡◌, ◌∙◌, ◌++◌, ◌∷◌, ap, arith, drop, refl, subst, sym}
use Rattle.std.specs.Prelude.{vec_len}
use Rattle.chr_rules.specs.RuleView.{goal_view}
use Rattle.chr_semantics.specs.State.{goal as goal_element, status_at}
use Rattle.chr_trace.specs.State.{elem_view, stack_view}
use Rattle.chr_machine.specs.Model.{CourseModel, course_of}
use Rattle.chr_machine.specs.Solving.{SolvesGoal}
use Rattle.chr_machine.specs.declared.execution.Execution.{Execution}
use Rattle.chr_machine.proofs.Models.{has_top}
use Rattle.chr_machine.proofs.Solves.{solve_ends, solve_holds}
use Rattle.chr_machine.proofs.execution.Execution.solve.Goals as goal

pub put_elems-requires : goal.put_elems-requires
put_elems-requires g c = c.drop_top.ensures.room (vec_len c.in_ok-waking.waking.elems) (omega (arith, c.in_ok-reserve.ensures.ok, c.len.ensures))

pub returns-in-Holds-clause-ok : goal.returns-in-Holds-clause-ok
returns-in-Holds-clause-ok g c =
    let old = c.args.self.now in
    let w = goal_view c.in-Goal.goal in
    let rest = stack_view c.in-Some.parts.1.now in
    let stood : stack_view old.stack.items ≡ goal_element w ∷ rest = ap stack_view (sym c.reserve.ensures.items) ∙ (ap stack_view (sym c.as_slice.ensures.value) ∙ (c.in-Some.ensures.some ∙ ap (λ e. elem_view e ∷ rest) c.in-Goal.is)) in
    let s = c.settle.ensures in
    let solved = subst (λ (x : CourseModel). SolvesGoal w x c.in_ok-solved-in-Goal.solved (course_of c.solve.new.self)) c.waking.ensures.same c.in_ok-solved-in-Goal.ensures.ok in
    let at_end = subst (λ d. SolvesGoal w (course_of old.course) c.in_ok-solved-in-Goal.solved (course_of d)) (sym s.course) solved in
    let below : stack_view c.drop_top.new.stack.items ≡ rest = c.drop_top.ensures.view ∙ (ap (λ es. drop 1 (stack_view es)) c.reserve.ensures.items ∙ ap (drop 1) stood) in
    let stack = ap (λ v. stack_view v.items) s.stack in
    record {
      makes = solve_holds old c.settle.new.self c.requires.can c.requires.top w rest stood c.in_ok-solved-in-Goal.solved at_end c.in-Holds.is (stack ∙ (c.put_elems.ensures ∙ (λ k. c.in_ok-waking.ensures.elems k ++ below k))) (s.status ∙ ap status_at (sym stack));
      ready = s.ready;
    }

pub returns-in-Ends-clause-ok : goal.returns-in-Ends-clause-ok
returns-in-Ends-clause-ok g c =
    let old = c.args.self.now in
    let w = goal_view c.in-Goal.goal in
    let rest = stack_view c.in-Some.parts.1.now in
    let stood : stack_view old.stack.items ≡ goal_element w ∷ rest = ap stack_view (sym c.reserve.ensures.items) ∙ (ap stack_view (sym c.as_slice.ensures.value) ∙ (c.in-Some.ensures.some ∙ ap (λ e. elem_view e ∷ rest) c.in-Goal.is)) in
    let solved = subst (λ (x : CourseModel). SolvesGoal w x c.in_ok-solved-in-Goal.solved (course_of c.solve.new.self)) c.waking.ensures.same c.in_ok-solved-in-Goal.ensures.ok in
    let new : Execution g.row.A.Denot = record { stack = c.reserve.new.self; status = c.in-Ends.status; course = c.solve.new.self } in
    let stack = ap stack_view c.reserve.ensures.items ∙ stood in
    record {
      makes = solve_ends old new c.requires.can c.requires.top w rest stood c.in_ok-solved-in-Goal.solved solved c.in-Ends.status c.in-Ends.is stack refl;
      ready = λ runs. omega (arith, has_top c.reserve.new.self.items (goal_element w) rest stack, c.reserve.new.self.ok.0);
    }
