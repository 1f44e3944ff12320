use Rattle.std.proofs.Common.{◌∙◌, ap, arith, refl, sym}
use Rattle.chr_trace.specs.State.{stack_view}
use Rattle.chr_machine.proofs.Models.{no_top}
use Rattle.chr_machine.proofs.execution.Execution.step_top.Goals as goal

pub unreachable-requires : goal.unreachable-requires
unreachable-requires g c =
    let v = c.args.self.now.stack in
    let none = no_top v.items (ap stack_view (sym c.as_slice.ensures.value) ∙ c.in-None.ensures.none) in
    absurd (omega (arith, none, v.ok.0, c.requires.some))

pub same-shared : goal.same-shared
same-shared g c = refl

pub replace_top-requires-in-Chr : goal.replace_top-requires-in-Chr
replace_top-requires-in-Chr g c = c.requires.some
