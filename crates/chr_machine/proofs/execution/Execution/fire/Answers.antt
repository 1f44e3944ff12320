use Rattle.std.proofs.Common.{◌∙◌, ◌++◌, ap, arith, cond, drop, map, nat_lt, subst, sym}
use Rattle.std.specs.Prelude.{vec_len}
use Rattle.chr_semantics.specs.State.{goal as goal_element, status_at}
use Rattle.chr_rules.specs.RuleView.{goal_view}
use Rattle.chr_trace.specs.State.{stack_view}
use Rattle.chr_machine.specs.Firing.{AreFired}
use Rattle.chr_machine.specs.Model.{course_of}
use Rattle.chr_machine.proofs.OnTop.{fired}
use Rattle.chr_machine.proofs.execution.Execution.fire.Goals as goal

pub put_goals-requires : goal.put_goals-requires
put_goals-requires g c = c.drop_unless.ensures.room (vec_len c.args.firing.goals) (omega (arith, c.in_ok-reserve.ensures.ok, c.len.ensures))

pub returns-clause-ok : goal.returns-clause-ok
returns-clause-ok g c =
    let old = c.args.self.now in
    let f = c.args.firing in
    let s = c.settle.ensures in
    let stack = ap (λ v. stack_view v.items) s.stack in
    let left = c.drop_unless.ensures.view ∙ ap (λ es. cond (nat_lt f.active.place f.active.rule.now.kept) (stack_view es) (drop 1 (stack_view es))) c.reserve.ensures.items in
    record {
      makes = fired old c.settle.new.self f c.requires.can c.requires.top (stack ∙ (c.put_goals.ensures ∙ ap (λ es. map (λ x. goal_element (goal_view x)) f.goals.items ++ es) left)) (s.status ∙ ap status_at (sym stack))
          (subst (λ d. AreFired f old.course (course_of d)) (sym s.course) c.in_ok-fire.ensures.ok);
      ready = s.ready;
    }
