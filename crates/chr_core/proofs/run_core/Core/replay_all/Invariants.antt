use Rattle.std.proofs.Common.{take}
use Rattle.chr_rules.specs.RuleView.{query_view}
use Rattle.chr_schedule.specs.EventView.{events_view}
use Rattle.chr_core.specs.Replaying.{HasReplayed, IsSameQuery}
use Rattle.chr_core.proofs.run_core.Core.replay_all.Given as goal

-- the events that the loop has passed were replayed
abbrev pub invariant-loop-place : goal.invariant-loop-place
invariant-loop-place g l = record {
  same : IsSameQuery l.initial.self l.self;
  replayed : HasReplayed g.J.RunName.rules (query_view l.initial.self.query) (take l.place (events_view l.events)) (events_view l.self.events.items) l.steps;
}
