-- A Step waits for the others of its run; another event is written after those that wait.
use Rattle.std.proofs.Common.{◌++◌, arith, ap, sym, refl, ◌∙◌}
use Rattle.chr_semantics.specs.ScheduleText.{arrives, publishes}
use Rattle.chr_term.proofs.Extensions.{extended_on}
use Rattle.chr_schedule.specs.declared.event.Event.{Event}
use Rattle.chr_schedule.proofs.Pieces.{written_as, written_on}
use Rattle.chr_schedule.proofs.Runs.{all_passed, event_passed, step_passed}
use Rattle.chr_schedule.proofs.printing.write_schedule.Goals as goal
use Rattle.chr_schedule.proofs.printing.write_schedule.Goals.{in-Step, in-Publish+in_ok-write_after-in-Publish, in-Arrive+in_ok-write_after-in-Arrive}

pub loop-event-preserved : goal.loop-event-preserved
loop-event-preserved g c =
    let es = c.args.events.now in
    let i = c.loop-event.event-index in
    let n = c.loop-event.steps in
    let out = c.loop-event.out.items in
    elim c.match-event.branch [
      | in-Step w ↦ record {
        text = rw (w.out-is, w.steps-is) (c.loop-event.invariant.text ∙ ap (λ t. out ++ t) (step_passed es i n _ c.loop-event-test.true w.in-Step.is));
        few = omega arith;
        kept = rw w.out-is c.loop-event.invariant.kept;
      }
      | in-Publish+in_ok-write_after-in-Publish w ↦ record {
        text = rw (w.out-is, w.steps-is)
            (c.loop-event.invariant.text ∙ written_on _ _ _ _ _ w.in_ok-write_after-in-Publish.ensures.ok (event_passed es i n _ Event.Publish publishes c.loop-event-test.true w.in-Publish.is (λ fs. refl) (λ ls. refl)));
        few = omega arith;
        kept = rw w.out-is (extended_on _ _ _ c.loop-event.invariant.kept w.in_ok-write_after-in-Publish.ensures.kept);
      }
      | in-Arrive+in_ok-write_after-in-Arrive w ↦ record {
        text = rw (w.out-is, w.steps-is)
            (c.loop-event.invariant.text ∙ written_on _ _ _ _ _ w.in_ok-write_after-in-Arrive.ensures.ok (event_passed es i n _ (Event.Arrive w.in-Arrive.round w.in-Arrive.index) (arrives w.in-Arrive.round w.in-Arrive.index) c.loop-event-test.true w.in-Arrive.is (λ fs. refl) (λ ls. refl)));
        few = omega arith;
        kept = rw w.out-is (extended_on _ _ _ c.loop-event.invariant.kept w.in_ok-write_after-in-Arrive.ensures.kept);
      }
    ]

pub returns-clause-ok : goal.returns-clause-ok
returns-clause-ok g c =
    written_as c.write_steps.result _ _ _ c.write_steps.ensures.ok
    (sym (c.loop-event.invariant.text ∙ ap (λ t. c.loop-event.out.items ++ t) (all_passed c.args.events.now c.loop-event.event-index c.loop-event.steps c.loop-event-test.false)))
