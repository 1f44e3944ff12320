use Rattle.std.proofs.Common.{arith, subst, sym}
use Rattle.chr_semantics.specs.Program.{Program}
use Rattle.chr_machine.proofs.Runs.{further_more}
use Rattle.chr_look.specs.Watching.{machine_in}
use Rattle.chr_look.proofs.notes.go_on.Goals as goal

pub loop-made-preserved : goal.loop-made-preserved
loop-made-preserved g c =
    let moves = rw c.in-Moved.is at c.in_ok-step.ensures.steps in
    record {
      within = omega (arith, c.loop-made-test.true);
      further = further_more c.loop-made.made (machine_in c.args.watched.now) (machine_in c.loop-made.watched) (machine_in c.step.new.watched) c.loop-made.invariant.further moves;
      has = subst (λ (p : Program). g.N.Notes.has p c.args.subject.now) (sym moves.same.rules) c.loop-made.invariant.has;
      watched = λ p q w. c.in_ok-step.ensures.watched p q (c.loop-made.invariant.watched p q w);
      noted = λ p q w before. c.in_ok-step.ensures.noted p q (c.loop-made.invariant.watched p q w) (c.loop-made.invariant.noted p q w before);
    }
