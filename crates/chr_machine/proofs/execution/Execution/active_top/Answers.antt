use Rattle.std.proofs.Common.{◌∙◌, ◌∷◌, List, ap, sym}
use Rattle.chr_term.specs.TermView.{atom_over}
use Rattle.chr_trace.specs.State.{elem_view, stack_view}
use Rattle.chr_trace.specs.declared.state.Elem.{Elem}
use Rattle.chr_machine.specs.Gathering.{active_of}
use Rattle.chr_machine.specs.Model.{model_of, state_in}
use Rattle.chr_machine.proofs.Tops.{living_on_top}
use Rattle.chr_machine.proofs.execution.Execution.active_top.Goals as goal

pub returns-in-Some-living : goal.returns-in-Some-living
returns-in-Some-living g c =
    let s = state_in (model_of c.args.self.now) in
    let below = stack_view c.in-Some.parts.1.now in
    let a = atom_over c.in-Active.sym c.in-Active.field-3 in
    living_on_top s c.in-Active.id.0 c.in-Active.number a below c.living.result c.in-Some-living.active c.living.ensures c.in-Some-living.is
    ∙ (ap (λ (e : Elem g.row.A.Denot). active_of s (elem_view e ∷ below)) (sym c.in-Active.is)
    ∙ (ap (active_of s) (sym c.in-Some.ensures.some) ∙ ap (λ (es : List (Elem g.row.A.Denot)). active_of s (stack_view es)) c.as_slice.ensures.value))
