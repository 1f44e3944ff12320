use Rattle.std.proofs.Common.{◌≡◌, ◌∷◌, List, refl, subst, sym}
use Rattle.chr_semantics.specs.State.{Element}
use Rattle.chr_trace.specs.State.{elem_view}
use Rattle.chr_trace.specs.declared.state.Elem.{Elem}
use Rattle.chr_trace.specs.declared.state.Elem.TheVariants.{Active}
use Rattle.chr_machine.specs.Stack.{moved_to}
use Rattle.chr_machine.proofs.Stacks.{moved}
use Rattle.chr_machine.proofs.stack.move_to.Goals as goal

pub returns-in-Active-clause-view : goal.returns-in-Active-clause-view
returns-in-Active-clause-view g c =
    let v = c.args.stack.now in
    let top = c.in-Some.top.now in
    let new = Active c.in-Active.field-0 c.args.number c.in-Active.field-2 c.in-Active.field-3 in
    moved v.items _ c.args.number new top top v.ok.0 (c.in-Some.ensures.variant.0 refl) (sym c.in-Some.ensures.value)
    (λ rest. subst (λ (e : Elem g.row.A.Denot). elem_view new ∷ rest ≡ moved_to c.args.number (elem_view e ∷ rest)) (sym c.in-Active.is) refl)

pub returns-in-Known-clause-view : goal.returns-in-Known-clause-view
returns-in-Known-clause-view g c =
    let v = c.args.stack.now in
    let top = c.in-Some.top.now in
    moved v.items _ c.args.number top top top v.ok.0 (c.in-Some.ensures.variant.0 refl) (sym c.in-Some.ensures.value)
    (λ rest. subst (λ (e : Elem g.row.A.Denot). elem_view e ∷ rest ≡ moved_to c.args.number (elem_view e ∷ rest)) (sym c.in-Known.is) refl)

pub returns-in-Goal-clause-view : goal.returns-in-Goal-clause-view
returns-in-Goal-clause-view g c =
    let v = c.args.stack.now in
    let top = c.in-Some.top.now in
    moved v.items _ c.args.number top top top v.ok.0 (c.in-Some.ensures.variant.0 refl) (sym c.in-Some.ensures.value)
    (λ rest. subst (λ (e : Elem g.row.A.Denot). elem_view e ∷ rest ≡ moved_to c.args.number (elem_view e ∷ rest)) (sym c.in-Goal.is) refl)
