use Rattle.std.proofs.Common.{ap, arith, length, sym, ℕ, ◌≡◌, ◌∙◌}
use Rattle.std.proofs.lemmas.List.{length-map}
use Rattle.std.specs.Prelude.{List, nat_le}
use Rattle.chr_semantics.specs.Schedule.{progress}
use Rattle.chr_semantics.specs.Snapshot.{snapshot_of}
use Rattle.chr_semantics.specs.State.{start}
use Rattle.chr_semantics.specs.Step.{after}
use Rattle.chr_semantics.specs.Tasks.{Task, tasks}
use Rattle.chr_semantics.specs.declared.limits.TheConstants.{MAX_ROUNDS}
use Rattle.chr_rules.proofs.Each.{err_answers}
use Rattle.chr_schedule.specs.EventView.{events_view}
use Rattle.chr_find.specs.SnapshotView.{task_view}
use Rattle.chr_machine.specs.MachineView.{machine_view}
use Rattle.chr_machine.specs.Model.{Model, state_in}
use Rattle.chr_rules.specs.RuleView.{query_view}
use Rattle.chr_core.specs.ErrorView.{is_full}
use Rattle.chr_core.specs.RoundView.{round_of}
use Rattle.chr_core.specs.declared.error.CoreError.TheVariants.{Memory as OutOfMemory}
use Rattle.chr_core.proofs.Few.{few_tasks, fewer_made}
use Rattle.chr_core.proofs.run_core.Core.publish.Goals as goal

pub overflow_cast-count : goal.overflow_cast-count
overflow_cast-count g c =
    let m = machine_view c.room_for_round.new.self.machine in
    let w = snapshot_of m.rules (state_in m) in
    let count = sym (length-map c.tasks.result.now task_view) ∙ ap (λ (ts : List Task). length ts) (sym (c.tasks.ensures w c.in_ok-snapshot.ensures.shown)) in
    omega (arith, count, few_tasks m.rules (state_in m))

pub push_round-requires-clause-round : goal.push_round-requires-clause-round
push_round-requires-clause-round g c =
    let m = machine_view c.room_for_round.new.self.machine in
    let n = machine_view c.snapshot.new.self in
    let rules = c.room_for_round.new.self.at.run.same.rules in
    let same : m ≡ n = sym c.snapshot.ensures.same in
    c.in_ok-round.ensures (snapshot_of m.rules (state_in m)) c.in_ok-snapshot.ensures.shown
    ∙ (λ k. (let w = snapshot_of (rules k) (state_in (same k)) in round_of n w.tasks w.guest))

pub returns-in-Ok-clause-tasks : goal.returns-in-Ok-clause-tasks
returns-in-Ok-clause-tasks g c =
    let old = c.args.self.now in
    let p = g.J.RunName.rules in
    let q = start (query_view old.query) in
    let m = machine_view c.room_for_round.new.self.machine in
    let rules = c.room_for_round.new.self.at.run.same.rules in
    let state = ap state_in c.room_for_round.ensures.same.run.machine_is ∙ old.at.run.state_is ∙ ap (after p q) (sym old.stands.steps_are) in
    sym (length-map c.tasks.result.now task_view)
    ∙ ap (λ (ts : List Task). length ts) (sym (c.tasks.ensures (snapshot_of m.rules (state_in m)) c.in_ok-snapshot.ensures.shown))
    ∙ (λ k. length (tasks (rules k) (state k)))

pub returns-in_err-round-clause-why : goal.returns-in_err-round-clause-why
returns-in_err-round-clause-why g c =
    let old = c.args.self.now in
    let rounds = (progress g.J.RunName.rules (start (query_view old.query)) (events_view old.events.items)).rounds in
    err_answers c.from_residual-in_err-round.result OutOfMemory (λ error. is_full error ≡ nat_le MAX_ROUNDS (length rounds)) c.from_residual-in_err-round.ensures.1
    (fewer_made old.rounds.items rounds old.stands.holds.ats_are (omega (arith, c.len.ensures, c.if-len-ge-MAX_ROUNDS.false)))

pub returns-in-Err-clause-why : goal.returns-in-Err-clause-why
returns-in-Err-clause-why g c =
    let old = c.args.self.now in
    let rounds = (progress g.J.RunName.rules (start (query_view old.query)) (events_view old.events.items)).rounds in
    fewer_made old.rounds.items rounds old.stands.holds.ats_are (omega (arith, c.len.ensures, c.if-len-ge-MAX_ROUNDS.false))
