use Rattle.std.proofs.Common.{◌∙◌, ap, sym}
use Rattle.chr_trace.specs.State.{elem_view, stack_view}
use Rattle.std.proofs.Common.{◌∷◌}
use Rattle.chr_machine.proofs.OnTop.{can_fire, can_still}
use Rattle.chr_machine.proofs.execution.Execution.step_active.Goals as goal

pub fire-requires-clause-can : goal.fire-requires-clause-can
fire-requires-clause-can g c = can_still c.args.self.now _ c.in_ok-turn.turn c.turn.new.self c.in-Fires.firing c.requires.can c.in-Fires.is c.in_ok-turn.ensures.ok

pub fire-requires-clause-top : goal.fire-requires-clause-top
fire-requires-clause-top g c =
    let old = c.args.self.now in
    let rest = stack_view c.in-Some.parts.1.now in
    let stood = ap stack_view (sym c.as_slice.ensures.value) ∙ (c.in-Some.ensures.some ∙ ap (λ e. elem_view e ∷ rest) c.in-Active.is) in
    record {
      fires = can_fire old _ c.in_ok-turn.turn c.turn.new.self c.in-Fires.firing c.requires.can c.in-Fires.is c.in_ok-turn.ensures.ok rest stood;
      rest = rest;
      top = stood;
    }
