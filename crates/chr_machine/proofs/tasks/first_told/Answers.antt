use Rattle.std.proofs.Common.{◌∙◌, arith, sym}
use Rattle.chr_term.specs.TermView.{atom_over}
use Rattle.chr_machine.proofs.Tops.{guest_below, guest_here}
use Rattle.chr_machine.proofs.tasks.first_told.Goals as goal

pub returns-in-Some : goal.returns-in-Some
returns-in-Some g c =
    let l = c.loop-left in
    let here = guest_here c.args.stack.now l.left c.index-stack-left.result (omega arith) l.invariant.within c.index-stack-left.is (atom_over c.in-Some.found.0 c.in-Some.found.1.now) c.in-Some.ensures.some in
    sym (l.invariant.same ∙ here)

pub loop-left-preserved : goal.loop-left-preserved
loop-left-preserved g c =
    let l = c.loop-left in
    record {
      within = omega arith;
      same = l.invariant.same ∙ guest_below c.args.stack.now l.left c.index-stack-left.result (omega arith) l.invariant.within c.index-stack-left.is c.in_default.ensures.none;
    }
