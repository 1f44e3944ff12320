use Rattle.std.proofs.Common.{ap, map, refl, ◌∙◌}
use Rattle.std.specs.Prelude.{option_and_then}
use Rattle.chr_find.specs.SnapshotView.{task_view}
use Rattle.chr_laws.specs.Kept.{Answered}
use Rattle.chr_rules.specs.RuleView.{query_view}
use Rattle.chr_schedule.specs.EventView.{event_view}
use Rattle.chr_machine.specs.MachineView.{machine_view}
use Rattle.chr_core.specs.CoreView.{core_in}
use Rattle.chr_core.proofs.Serves.{answers, needed_occurrence}
use Rattle.chr_core.proofs.AfterStep.{at_stepped, used_stepped}
use Rattle.chr_core.proofs.run_core.Core.step_used.Goals as goal

pub invariant_of-self-2 : goal.invariant_of-self-2
invariant_of-self-2 g c =
    let old = c.args.self.now in
    let n = machine_view c.step_answered.new.self in
    let stepped = c.in_ok-stepped.stepped in
    let steps = c.in_ok-stepped.ensures.ok in
    record {
      at = at_stepped old n stepped steps;
      stands = used_stepped old n (task_view c.args.task) c.requires.ready.needs_are stepped steps c.args.position c.requires.serves _ _ c.note_step.ensures.events c.note_step.ensures.made;
      shown = old.shown;
      numbered = old.numbered;
    }

pub step_answered-requires : goal.step_answered-requires
step_answered-requires g c =
    let old = c.args.self.now in
    let p = g.J.RunName.rules in
    let w = c.requires.serves in
    let ids_are = c.ids.ensures ∙ ap (option_and_then (λ (k : Answered). k.ids)) w.there in
    let m = machine_view old.machine in
    let r = query_view old.query in
    rw ids_are (answers m.names p r m old.at (map event_view old.events.items) (core_in old) old.stands refl (task_view c.args.task) (needed_occurrence m.names p r m old.at (task_view c.args.task) c.requires.ready.needs_are) c.requires.ready.needs_are c.args.position w)
