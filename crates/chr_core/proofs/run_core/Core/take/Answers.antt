use Rattle.std.proofs.Common.{Bool, ap, cond, sym, ◌∙◌, ◌≡◌}
use Rattle.chr_semantics.specs.Calls.{rise_by_calls}
use Rattle.chr_semantics.specs.Schedule.{double, kept, late, progress, took}
use Rattle.chr_semantics.specs.State.{start}
use Rattle.chr_rules.specs.RuleView.{query_view}
use Rattle.chr_laws.specs.Rounds.{flag_at}
use Rattle.chr_laws.proofs.Stands.{stands_law}
use Rattle.chr_schedule.specs.EventView.{events_view}
use Rattle.chr_core.specs.CoreView.{core_in}
use Rattle.chr_core.proofs.run_core.Core.take.Goals as goal

pub returns-clause-took : goal.returns-clause-took
returns-clause-took g c =
    let old = c.args.self.now in
    let p = g.J.RunName.rules in
    let q = start (query_view old.query) in
    let es = events_view old.events.items in
    let i = c.args.round in
    let flag = ap (flag_at (core_in old).rounds i) (sym c.index-index.ensures) ∙ sym c.has_kept.ensures ∙ c.if-has_kept.false in
    sym (stands_law.takes p (rise_by_calls p) q es (core_in old) i c.args.answer.index old.stands
    ∙ ap (λ (b : Bool). cond b (late i) (cond (flag_at (core_in old).rounds i c.args.answer.index) (double i) (kept i))) (sym c.is_late.ensures ∙ c.if-is_late.false)
    ∙ ap (λ (b : Bool). cond b (double i) (kept i)) flag)
