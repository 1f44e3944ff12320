use Rattle.std.proofs.Common.{take}
use Rattle.chr_semantics.specs.Subst.{IsSolved}
use Rattle.chr_machine.specs.MachineView.{machine_view}
use Rattle.chr_machine.specs.Model.{state_in}
use Rattle.chr_look.specs.EffectView.{AreNoted, values_view}
use Rattle.chr_look.proofs.effects.values_of.Given as goal

abbrev pub invariant-loop-number : goal.invariant-loop-number
invariant-loop-number g l =
    let s = (state_in (machine_view l.machine)).subst in
    IsSolved s → AreNoted s (take l.number-index l.numbers) (values_view l.values.items)
