use Rattle.std.proofs.Common.{map, take}
use Rattle.std.specs.List.{list_any}
use Rattle.chr_semantics.specs.Suspicion.{makes}
use Rattle.chr_rules.specs.RuleView.{goal_view}
use Rattle.chr_suspicions.specs.Marks.{Marks}
use Rattle.chr_suspicions.proofs.symbols.mark_goals.Given as goal

abbrev pub invariant-loop-goal : goal.invariant-loop-goal
invariant-loop-goal g l = Marks l.initial.flags (λ f. list_any (makes f) (map goal_view (take l.goal-index l.goals))) l.flags
