use Rattle.std.proofs.Common.{◌≤◌, ap, arith, length, subst}
use Rattle.std.specs.Prelude.{IfSome}
use Rattle.std.proofs.lemmas.List.{length-map}
use Rattle.chr_store.specs.Numbers.{numbers}
use Rattle.chr_store.specs.declared.id.Id.{Id}
use Rattle.chr_machine.specs.Model.{model_of}
use Rattle.chr_machine.proofs.Answered.{few_answer}
use Rattle.chr_machine.proofs.machine.Machine.step_with.Goals as goal

pub of-requires : goal.of-requires
of-requires g c =
    let self = c.args.self.now in
    let few = few_answer (model_of self.execution) (λ ids. numbers ids.items) c.args.found.ids self.steady.proper.bounded c.requires in
    let counted : length (numbers c.in-Some.ids.items) ≤ 8 = subst (λ o. IfSome o (λ ids. length (numbers ids.items) ≤ 8)) c.in-Some.is few in
    omega (arith, counted, length-map c.in-Some.ids.items (λ (i : Id). i.0), ap length c.as_slice.ensures)
