use Rattle.std.proofs.Common.{◌≡◌, ◌∙◌, arith, ap, subst, sym, ℕ}
use Rattle.chr_semantics.specs.Program.{Query}
use Rattle.chr_semantics.specs.Schedule.{progress}
use Rattle.chr_semantics.specs.State.{start}
use Rattle.chr_find.specs.SnapshotView.{task_view}
use Rattle.chr_machine.specs.Model.{Model}
use Rattle.chr_machine.specs.NeedView.{need}
use Rattle.chr_core.specs.CoreView.{events_of, machine_in, query_of, start_of}
use Rattle.chr_policy.specs.Standing.{IsReady}
use Rattle.chr_policy.proofs.Cores.{at_rest_plain, at_rest_searched}
use Rattle.chr_policy.proofs.coordinator.Coordinator.turn.Goals as goal

pub returns-in-Plain-clause-rests : goal.returns-in-Plain-clause-rests
returns-in-Plain-clause-rests g c =
    let old = c.args.self.now in
    let needs = ap need (sym c.machine.ensures.same) ∙ sym c.in-Plain.ensures in
    at_rest_plain old.core (record old { core = c.step.new.self }) c.requires.few c.step.result c.step.ensures.query needs c.requires.rests.rests c.requires.rests.few c.requires.rests.full c.step.ensures.machine c.step.ensures.events

pub returns-in_ok-prepare-in-Search-clause-rests : goal.returns-in_ok-prepare-in-Search-clause-rests
returns-in_ok-prepare-in-Search-clause-rests g c =
    let p = g.J.RunName.rules in
    let old = c.args.self.now in
    let ready = c.prepare.new.self in
    let same = c.prepare.ensures.same in
    let needs = ap need (same.machine_is ∙ sym c.machine.ensures.same) ∙ sym c.in-Search.ensures in
    let at = progress p (start_of old.core) (events_of old.core) in
    let is_ready = subst (λ (w : ℕ). IsReady p (start_of ready.core) w ready.skipped at (events_of ready.core)) (sym same.workers_are) (subst (λ (r : Query). IsReady p (start r) old.workers ready.skipped at (events_of ready.core)) (sym same.query_is) c.in_ok-prepare-in-Search.ensures.ready) in
    let steps = ap (λ (m : Model). m.steps) same.machine_is in
    at_rest_searched ready.core (record ready { core = c.step_beside.new.core }) (omega (arith, steps, c.requires.few)) c.step_beside.result c.step_beside.ensures.query (task_view c.in-Search.task) needs at is_ready (omega (arith, steps, c.prepare.ensures.few)) c.prepare.ensures.full c.step_beside.ensures.machine c.step_beside.ensures.events
