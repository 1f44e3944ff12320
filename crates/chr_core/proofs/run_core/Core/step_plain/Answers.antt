use Rattle.chr_machine.specs.MachineView.{machine_view}
use Rattle.chr_core.proofs.AfterStep.{at_stepped, plain_stepped}
use Rattle.chr_core.proofs.run_core.Core.step_plain.Goals as goal

pub invariant_of-self-2 : goal.invariant_of-self-2
invariant_of-self-2 g c =
    let old = c.args.self.now in
    let n = machine_view c.step_plain.new.self in
    let stepped = c.in_ok-stepped.stepped in
    let steps = c.in_ok-stepped.ensures.ok in
    record {
      at = at_stepped old n stepped steps;
      stands = plain_stepped old n stepped steps c.requires.needs_are _ c.note_step.ensures.events;
      shown = old.shown;
      numbered = old.numbered;
    }
