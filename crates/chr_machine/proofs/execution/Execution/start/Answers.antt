use Rattle.std.proofs.Common.{◌∙◌, ◌++◌, ap, map, sym}
use Rattle.chr_semantics.specs.State.{goal as goal_element, status_at}
use Rattle.chr_rules.specs.ProgramView.{names_of, rules_of}
use Rattle.chr_rules.specs.RuleView.{goal_view, query_view}
use Rattle.chr_trace.specs.State.{stack_view, status_view}
use Rattle.chr_machine.specs.Model.{course_of, model_of}
use Rattle.chr_machine.proofs.Starts.{counted_start, proper_start, started}
use Rattle.chr_machine.proofs.execution.Execution.start.Goals as goal

pub returns-clause-starts : goal.returns-clause-starts
returns-clause-starts g c =
    let s = c.settle.ensures in
    let new = c.settle.new.self in
    let goals = c.args.query.goals.items in
    let stack = ap (λ v. stack_view v.items) s.stack in
    started (names_of c.args.program.now) (rules_of c.args.program.now) goals c.args.query.var_names (stack_view new.stack.items) (status_view new.status) (course_of new.course)
    (stack ∙ (c.put_goals.ensures ∙ ap (λ es. map (λ x. goal_element (goal_view x)) goals ++ stack_view es) c.in_ok-stack.ensures.items))
    (s.status ∙ ap status_at (sym stack)) (ap course_of s.course ∙ c.in_ok-new.ensures)

pub returns-clause-steady : goal.returns-clause-steady
returns-clause-steady g c =
    let names = names_of c.args.program.now in
    let rules = rules_of c.args.program.now in
    let q = query_view c.args.query in
    let m = model_of c.settle.new.self in
    record {
      ready = c.settle.ensures.ready;
      counted = counted_start names rules q m (returns-clause-starts g c);
      proper = proper_start names rules q m c.rules-rules.ensures.bounded c.requires (returns-clause-starts g c);
    }
