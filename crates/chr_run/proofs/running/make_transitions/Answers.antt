use Rattle.std.proofs.Common.{◌≡◌, ◌∙◌, inl, inr, ℕ, List, Option, ap, arith, drop, subst, sym}
use Rattle.std.specs.Io.KnownBytes.{Appends}
use Rattle.std.specs.Prelude.{OnErr, OnOk}
use Rattle.chr_semantics.specs.Text.{lines_text}
use Rattle.chr_machine.specs.MachineView.{machine_view}
use Rattle.chr_machine.specs.Model.{Model}
use Rattle.chr_policy.specs.CoordinatorView.{machine_by}
use Rattle.chr_run.specs.Output.{AppendsLess, AppendsPart}
use Rattle.chr_run.specs.Sending.{AreOut, GoOn, rest_text}
use Rattle.chr_run.specs.Turns.{Turns}
use Rattle.chr_run.proofs.Parts.{answered}
use Rattle.chr_run.proofs.Sent.{IsDone, cut_here, cut_off, done_same, ends, sent_cut, sent_more, sent_on}
use Rattle.chr_run.proofs.running.make_transitions.Goals as goal
use Rattle.chr_run.proofs.running.make_transitions.Goals.{else-loop-transitions-test, then-loop-transitions-test+in_ok-sent+in-Ok-Ended, then-loop-transitions-test+in_ok-sent+in-Ok-Spent}

-- the lines of the machine that the coordinator shows are its own
module _ (old mid new : Option (List ℕ)) (coordinator machine : Model) (sent : ℕ) (same : machine ≡ coordinator) (out : AreOut old mid coordinator.lines sent) where
  further_out : (count : ℕ) → GoOn mid new machine.lines sent count → AreOut old new coordinator.lines count
  further_out count k = sent_on old mid new coordinator.lines sent out count (subst (λ (m : Model). GoOn mid new m.lines sent count) same k)

  further_cut : AppendsPart mid new (lines_text (drop sent machine.lines)) → AppendsPart old new (lines_text coordinator.lines)
  further_cut p = sent_cut old mid new coordinator.lines sent out (subst (λ (m : Model). AppendsPart mid new (lines_text (drop sent m.lines))) same p)

pub returns-in_err-sent : goal.returns-in_err-sent
returns-in_err-sent g c =
    let old = g.O.Outlet.known c.args.outlet.now in
    let mid = g.O.Outlet.known c.loop-transitions.outlet in
    let new = g.O.Outlet.known c.send_further.new.outlet in
    let m = machine_by c.loop-transitions.coordinator in
    let part = further_cut old mid new m (machine_view c.machine.result.now) c.loop-transitions.sent c.machine.ensures.same c.loop-transitions.invariant.out c.in_err-sent.ensures.part in
    let was = c.loop-transitions.invariant.steps in
    let within = c.loop-transitions.invariant.within in
    let e = c.in_err-sent.field-0.0 in
    answered (Turns {G = g.J.RunName} c.args.budget c.args.coordinator.now c.loop-transitions.coordinator old new) c.from_residual.result e c.from_residual.ensures.1
    (record {
      same = c.loop-transitions.invariant.same;
      through = tt;
      rests = tt;
      text = tt;
      part = inl (omega (arith, was, within), part);
    })

pub returns-in_err-_all-in-Err : goal.returns-in_err-_all-in-Err
returns-in_err-_all-in-Err g c =
    let old = g.O.Outlet.known c.args.outlet.now in
    let mid = g.O.Outlet.known c.loop-transitions.outlet in
    let here = g.O.Outlet.known c.send_further.new.outlet in
    let new = g.O.Outlet.known c.send_further-in-Err.new.outlet in
    let m = machine_by c.loop-transitions.coordinator in
    let sent = c.in_ok-sent.sent in
    let out = further_out old mid here m (machine_view c.machine.result.now) c.loop-transitions.sent c.machine.ensures.same c.loop-transitions.invariant.out sent c.in_ok-sent.ensures.ok in
    let was = c.loop-transitions.invariant.steps in
    let within = c.loop-transitions.invariant.within in
    let stays = c.in-Err.ensures.err in
    let same = c.machine-in-Err.ensures.same ∙ stays in
    let part = further_cut old here new m (machine_view c.machine-in-Err.result.now) sent same out c.in_err-_all-in-Err.ensures.part in
    let e = c.in_err-_all-in-Err.field-0.0 in
    answered (Turns {G = g.J.RunName} c.args.budget c.args.coordinator.now c.turn.new.self old new) c.from_residual-in_err-_all-in-Err.result e c.from_residual-in_err-_all-in-Err.ensures.1
    (cut_off {G = g.J.RunName} c.args.budget c.args.coordinator.now c.loop-transitions.coordinator c.turn.new.self old new e c.loop-transitions.invariant.same stays c.turn.ensures.query c.turn.ensures.workers (omega (arith, was, within)) part)

pub returns-in-Err : goal.returns-in-Err
returns-in-Err g c =
    let old = g.O.Outlet.known c.args.outlet.now in
    let mid = g.O.Outlet.known c.loop-transitions.outlet in
    let here = g.O.Outlet.known c.send_further.new.outlet in
    let new = g.O.Outlet.known c.send_further-in-Err.new.outlet in
    let m = machine_by c.loop-transitions.coordinator in
    let sent = c.in_ok-sent.sent in
    let out = further_out old mid here m (machine_view c.machine.result.now) c.loop-transitions.sent c.machine.ensures.same c.loop-transitions.invariant.out sent c.in_ok-sent.ensures.ok in
    let was = c.loop-transitions.invariant.steps in
    let within = c.loop-transitions.invariant.within in
    let stays = c.in-Err.ensures.err in
    let same = c.machine-in-Err.ensures.same ∙ stays in
    let all = c.in_ok-_all-in-Err._all in
    let more = further_out old here new m (machine_view c.machine-in-Err.result.now) sent same out all c.in_ok-_all-in-Err.ensures.ok in
    cut_off {G = g.J.RunName} c.args.budget c.args.coordinator.now c.loop-transitions.coordinator c.turn.new.self old new _ c.loop-transitions.invariant.same stays c.turn.ensures.query c.turn.ensures.workers (omega (arith, was, within)) (cut_here old new new m.lines all more)

pub loop-transitions-preserved : goal.loop-transitions-preserved
loop-transitions-preserved g c =
    let old = g.O.Outlet.known c.args.outlet.now in
    let mid = g.O.Outlet.known c.loop-transitions.outlet in
    let new = g.O.Outlet.known c.send_further.new.outlet in
    let m = machine_by c.loop-transitions.coordinator in
    let sent = c.in_ok-sent.sent in
    let out = further_out old mid new m (machine_view c.machine.result.now) c.loop-transitions.sent c.machine.ensures.same c.loop-transitions.invariant.out sent c.in_ok-sent.ensures.ok in
    let moves = rw c.in-Ok-Moved.field-0-is at c.in-Ok-Moved.ensures.machine in
    let was = c.loop-transitions.invariant.steps in
    let more = moves.steps_are in
    record {
      within = omega arith;
      steps = omega (arith, was, more);
      same = record {
        names_are = moves.same.names ∙ c.loop-transitions.invariant.same.names_are;
        query_is = c.turn.ensures.query ∙ c.loop-transitions.invariant.same.query_is;
        workers_are = c.turn.ensures.workers ∙ c.loop-transitions.invariant.same.workers_are;
      };
      rests = c.in-Ok-Moved.ensures.rests;
      out = sent_more old new new m.lines sent out (machine_by c.turn.new.self).lines _ moves.lines_are;
    }

pub returns : goal.returns
returns g c =
    let n = c.args.budget in
    let old = c.args.coordinator.now in
    let before = g.O.Outlet.known c.args.outlet.now in
    let mid = g.O.Outlet.known c.loop-transitions-test.outlet in
    let after = g.O.Outlet.known c.send_rest.new.self in
    let k = c.loop-transitions-test.coordinator in
    let sent = c.loop-transitions-test.sent in
    let was = c.loop-transitions.invariant.steps in
    let within = c.loop-transitions.invariant.within in
    let done : IsDone {G = g.J.RunName} n old before k mid sent = elim c.loop-transitions-test.branch [
      | else-loop-transitions-test w ↦
          let over = w.loop-transitions-test.false in
          done_same g.O.Outlet.known n old before k _ c.loop-transitions-test.outlet _ sent _ w.coordinator-is w.outlet-is w.sent-is
          (record {
            same = c.loop-transitions.invariant.same;
            through = record { within = omega (arith, was, within); all = inl (omega (arith, was, within, over)) };
            rests = c.loop-transitions.invariant.rests;
            out = c.loop-transitions.invariant.out;
          })
      | then-loop-transitions-test+in_ok-sent+in-Ok-Ended w ↦
          let here = g.O.Outlet.known c.loop-transitions.outlet in
          let new = g.O.Outlet.known w.send_further.new.outlet in
          let m = machine_by c.loop-transitions.coordinator in
          let out = further_out before here new m (machine_view w.machine.result.now) c.loop-transitions.sent w.machine.ensures.same c.loop-transitions.invariant.out w.in_ok-sent.sent w.in_ok-sent.ensures.ok in
          let ended = rw w.in-Ok-Ended.field-0-is at w.in-Ok-Ended.ensures.machine in
          let steps = ap (λ (m : Model). m.steps) ended.1 in
          done_same g.O.Outlet.known n old before k _ c.loop-transitions-test.outlet _ sent _ w.coordinator-is w.outlet-is w.sent-is
          (record {
            same = record {
              names_are = ap (λ (m : Model). m.names) ended.1 ∙ c.loop-transitions.invariant.same.names_are;
              query_is = w.turn.ensures.query ∙ c.loop-transitions.invariant.same.query_is;
              workers_are = w.turn.ensures.workers ∙ c.loop-transitions.invariant.same.workers_are;
            };
            through = record {
              within = omega (arith, was, within, steps);
              all = inr (λ runs. ended.0 (sym (ap (λ (m : Model). m.status) ended.1) ∙ runs));
            };
            rests = w.in-Ok-Ended.ensures.rests;
            out = subst (λ (n : Model). AreOut before new n.lines w.in_ok-sent.sent) (sym ended.1) out;
          })
      | then-loop-transitions-test+in_ok-sent+in-Ok-Spent w ↦
          let spent = rw w.in-Ok-Spent.field-0-is at w.in-Ok-Spent.ensures.machine in
          let most = spent.1 in
          let below = w.loop-transitions-test.true in
          let limit = c.requires.limit in
          absurd (omega (arith, was, most, below, limit))
    ] in
    let r = c.send_rest.result in
    let same = c.machine-2.ensures.same in
    let text = subst (λ (m : Model). OnOk r (Appends mid after (rest_text m sent))) same c.send_rest.ensures.ok in
    let part = subst (λ (m : Model). OnErr r (AppendsLess mid after (rest_text m sent))) same c.send_rest.ensures.less in
    ends n old k before mid after sent r done.same done.through done.rests done.out text part
