use Rattle.std.proofs.Common.{◌≡◌, ◌≤◌, ◌+◌, ◌++◌, map, vec_len, vec_capacity}
use Rattle.chr_semantics.specs.State.{goal as goal_element}
use Rattle.chr_rules.specs.RuleView.{goal_view}
use Rattle.chr_trace.specs.State.{stack_view}
use Rattle.chr_machine.proofs.stack.put_goals.Given as goal

abbrev pub invariant-loop-goal : goal.invariant-loop-goal
invariant-loop-goal g l = record {
  same : map (λ x. goal_element (goal_view x)) l.initial.goals.items ++ stack_view l.initial.stack.items ≡ map (λ x. goal_element (goal_view x)) l.goals.items ++ stack_view l.stack.items;
  room : vec_len l.stack + vec_len l.goals ≤ vec_capacity l.stack;
}

abbrev pub decreases-loop-goal : goal.decreases-loop-goal
decreases-loop-goal g l = vec_len l.goals
