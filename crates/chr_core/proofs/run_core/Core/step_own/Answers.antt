use Rattle.chr_find.specs.SnapshotView.{task_view}
use Rattle.chr_machine.specs.MachineView.{machine_view}
use Rattle.chr_core.proofs.AfterStep.{at_stepped, own_stepped}
use Rattle.chr_core.proofs.run_core.Core.step_own.Goals as goal

pub invariant_of-self-2 : goal.invariant_of-self-2
invariant_of-self-2 g c =
    let old = c.args.self.now in
    let n = machine_view c.step.new.self in
    let stepped = c.in_ok-stepped.stepped in
    let steps = c.in_ok-stepped.ensures.ok in
    record {
      at = at_stepped old n stepped steps;
      stands = own_stepped old n (task_view c.args.task) c.requires.ready.needs_are stepped steps c.requires.none _ _ c.note_step.ensures.events c.note_step.ensures.made;
      shown = old.shown;
      numbered = old.numbered;
    }
