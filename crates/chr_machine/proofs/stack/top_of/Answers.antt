use Rattle.std.proofs.Common.{◌∙◌, ◌<◌, ap, arith, length, sym}
use Rattle.std.proofs.lemmas.List.{take_all}
use Rattle.chr_trace.specs.State.{stack_view}
use Rattle.chr_machine.proofs.Tops.{stack_from}
use Rattle.chr_machine.proofs.stack.top_of.Goals as goal

pub returns-clause-some : goal.returns-clause-some
returns-clause-some g c =
    let es = c.args.stack.now in
    let n = length es in
    let some : 0 < n = omega arith in
    ap stack_view (sym (take_all n es (omega arith))) ∙ stack_from es n c.index-stack-height.result some (omega arith) c.index-stack-height.is
