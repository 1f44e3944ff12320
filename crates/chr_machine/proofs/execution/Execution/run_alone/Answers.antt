use Rattle.std.proofs.Common.{arith}
use Rattle.chr_machine.specs.Model.{model_of}
use Rattle.chr_machine.proofs.Runs.{further_more, runs_ended, runs_refused, runs_spent}
use Rattle.chr_machine.proofs.execution.Execution.run_alone.Goals as goal

pub loop-made-preserved : goal.loop-made-preserved
loop-made-preserved g c =
    let moves = rw c.in-Ok-Moved.field-0-is at c.in-Ok-Moved.ensures.ok in
    record {
      within = omega arith;
      further = further_more c.loop-made.made (model_of c.args.self.now) (model_of c.loop-made.self) (model_of c.step.new.self) c.loop-made.invariant.further moves;
      steady = c.step.ensures.steady;
    }

pub returns-in-Ok-Ended-clause-runs : goal.returns-in-Ok-Ended-clause-runs
returns-in-Ok-Ended-clause-runs g c =
    let ended = rw c.in-Ok-Ended.field-0-is at c.in-Ok-Ended.ensures.ok in
    runs_ended c.args.n c.loop-made.made (model_of c.args.self.now) (model_of c.loop-made.self) (model_of c.step.new.self) c.loop-made.invariant.further ended.1 c.loop-made.invariant.within ended.0

pub returns-in-Ok-Spent-clause-runs : goal.returns-in-Ok-Spent-clause-runs
returns-in-Ok-Spent-clause-runs g c =
    let spent = rw c.in-Ok-Spent.field-0-is at c.in-Ok-Spent.ensures.ok in
    runs_spent c.args.n c.loop-made.made (model_of c.args.self.now) (model_of c.loop-made.self) (model_of c.step.new.self) c.loop-made.invariant.further spent.2 (omega arith) spent.0 spent.1

pub returns-in-Err-clause-runs : goal.returns-in-Err-clause-runs
returns-in-Err-clause-runs g c = runs_refused c.args.n c.loop-made.made (model_of c.args.self.now) (model_of c.loop-made.self) (model_of c.step.new.self) c.loop-made.invariant.further c.in-Err.ensures.err.same (omega arith) c.in-Err.ensures.err.due c.in-Err.error
