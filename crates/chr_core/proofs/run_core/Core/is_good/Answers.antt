use Rattle.std.proofs.Common.{Bool, ap, false, refl, sym, true, ℕ, ◌&&◌, ◌==◌, ◌∙◌, ◌≡◌}
use Rattle.std.specs.Prelude.{is_some}
use Rattle.chr_semantics.specs.Changes.{Store}
use Rattle.chr_find.specs.SnapshotView.{task_view}
use Rattle.chr_laws.specs.Good.{is_good}
use Rattle.chr_machine.specs.MachineView.{machine_view}
use Rattle.chr_machine.specs.Model.{state_in}
use Rattle.chr_rules.specs.RuleView.{query_view}
use Rattle.chr_store.specs.StoreView.{store_view}
use Rattle.chr_core.specs.CoreView.{core_in, events_of, progress_of, start_of}
use Rattle.chr_core.specs.Serving.{task_occurrence}
use Rattle.chr_core.proofs.Good.{good_none, good_stored, stored_occurrence}
use Rattle.chr_core.proofs.run_core.Core.is_good.Goals as goal

pub returns-in_default : goal.returns-in_default
returns-in_default g c =
    let core = c.args.self.now in
    let m = machine_view core.machine in
    sym (good_none m.names g.J.RunName.rules (query_view core.query) m core.at (events_of core) (core_in core) core.stands refl (task_view c.args.task)
    (sym (rw c.in_default.is at c.positions.ensures.row)) (sym (rw c.in_default.is at c.positions.ensures.guests)))

pub serving-requires : goal.serving-requires
serving-requires g c =
    let m = machine_view c.args.self.now.machine in
    let t = task_view c.args.task in
    let occurs : is_some (task_occurrence g.J.RunName.rules (state_in m) t) ≡ true = cc (c.if-not-has_occurrence.false, c.has_occurrence.ensures) in
    let stored : (t.0 == (state_in m).next_id) ≡ false = ap (λ (k : ℕ). t.0 == k) (sym (c.next.ensures ∙ ap (λ (s : Store). s.next_id) c.store.ensures)) ∙ sym c.eq.ensures ∙ c.if-eq.false in
    stored_occurrence g.J.RunName.rules (state_in m) t stored occurs

pub returns-else-eq : goal.returns-else-eq
returns-else-eq g c =
    let core = c.args.self.now in
    let p = g.J.RunName.rules in
    let m = machine_view core.machine in
    let t = task_view c.args.task in
    let occurs : is_some (task_occurrence p (state_in m) t) ≡ true = cc (c.if-not-has_occurrence.false, c.has_occurrence.ensures) in
    let stored : (t.0 == (state_in m).next_id) ≡ false = ap (λ (k : ℕ). t.0 == k) (sym (c.next.ensures ∙ ap (λ (s : Store). s.next_id) c.store.ensures)) ∙ sym c.eq.ensures ∙ c.if-eq.false in
    c.is_some.ensures
    ∙ good_stored m.names p (query_view core.query) m core.at (events_of core) (core_in core) core.stands refl t stored c.serving.result c.serving.ensures.some c.serving.ensures.none
    ∙ sym (ap (λ (b : Bool). b && is_good p (start_of core) (progress_of core) t) occurs)
