use Rattle.std.proofs.Common.{◌∙◌, List, subst, sym}
use Rattle.chr_semantics.specs.Program.{Query}
use Rattle.chr_semantics.specs.Schedule.{Event, progress}
use Rattle.chr_semantics.specs.State.{start}
use Rattle.chr_core.specs.CoreView.{AllowsArrival, events_of, query_of}
use Rattle.chr_policy.specs.Standing.{Keeps}
use Rattle.chr_policy.proofs.Standings.{keeps_taken}
use Rattle.chr_policy.proofs.sharing.absorb.Goals as goal

pub loop-answer-preserved : goal.loop-answer-preserved
loop-answer-preserved g c =
    let p = g.J.RunName.rules in
    let old = c.args.core.now in
    let core = c.loop-answer.core in
    let es = events_of core in
    let run = c.arrive.ensures.run in
    let before = c.loop-answer.invariant.run in
    let x = c.in-Some.answer.index in
    let allowed = subst (λ (r : Query). AllowsArrival p (start r) (progress p (start r) es) x c.in-Ok._took) before.query_is c.in-Ok.ensures.allowed in record {
      run = record { query_is = run.query_is ∙ before.query_is; machine_is = run.machine_is ∙ before.machine_is };
      keeps = λ at b missed k. subst (λ (fs : List Event). Keeps p (start (query_of old)) fs at b missed) (sym c.in-Ok.ensures.events)
          (keeps_taken p (start (query_of old)) es at b missed x c.in-Ok._took (c.loop-answer.invariant.keeps at b missed k) allowed);
    }

pub returns-in-Err-clause-run : goal.returns-in-Err-clause-run
returns-in-Err-clause-run g c =
    let run = c.arrive.ensures.run in
    let before = c.loop-answer.invariant.run in record {
      query_is = run.query_is ∙ before.query_is;
      machine_is = run.machine_is ∙ before.machine_is;
    }
