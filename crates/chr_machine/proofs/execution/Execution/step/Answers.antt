use Rattle.std.proofs.Common.{ap, arith}
use Rattle.chr_trace.specs.State.{status_view}
use Rattle.chr_machine.specs.Model.{model_of}
use Rattle.chr_machine.proofs.Models.{steady_same}
use Rattle.chr_machine.proofs.Moved.{counted_moved, moved, proper_moved}
use Rattle.chr_machine.proofs.execution.Execution.step.Goals as goal

pub returns-in_ok-step_top-in-Running-clause-ok : goal.returns-in_ok-step_top-in-Running-clause-ok
returns-in_ok-step_top-in-Running-clause-ok g c = moved (model_of c.args.self.now) (model_of c.step_top.new.self) (ap status_view c.in-Running.is) (omega arith) c.in_ok-step_top-in-Running.ensures.ok.makes

pub returns-in_ok-step_top-in-Running-clause-steady : goal.returns-in_ok-step_top-in-Running-clause-steady
returns-in_ok-step_top-in-Running-clause-steady g c =
    let m = model_of c.args.self.now in
    let n = model_of c.step_top.new.self in
    let made = c.in_ok-step_top-in-Running.ensures.ok in
    record {
      ready = made.ready;
      counted = counted_moved m n c.requires.steady.counted (omega arith) made.makes;
      proper = proper_moved m n c.requires.steady.proper (moved m n (ap status_view c.in-Running.is) (omega arith) made.makes);
    }

pub returns-in_err-step_top-in-Running-clause-steady : goal.returns-in_err-step_top-in-Running-clause-steady
returns-in_err-step_top-in-Running-clause-steady g c = steady_same c.args.self.now c.step_top.new.self c.in_err-step_top-in-Running.ensures.err c.requires.steady
