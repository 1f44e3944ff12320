use Rattle.std.specs.List.{list_any}
use Rattle.std.specs.Prelude.{IfNone, IfSome}
use Rattle.chr_semantics.specs.State.{resolved_atom}
use Rattle.std.proofs.Common.{List, Some, false, map, refl, subst, sym, ℕ, ◌∙◌, ◌≡◌}
use Rattle.chr_find.specs.SnapshotView.{task_view}
use Rattle.chr_machine.specs.MachineView.{machine_view}
use Rattle.chr_rules.specs.RuleView.{query_view}
use Rattle.chr_schedule.specs.EventView.{event_view}
use Rattle.chr_term.specs.TermView.{atom_view}
use Rattle.chr_core.specs.AnswersView.{row_in}
use Rattle.chr_core.specs.CoreView.{core_in}
use Rattle.chr_core.specs.Serving.{GuestPasses, guest_passes, row_passes}
use Rattle.chr_core.proofs.Serves.{guest_found, none_found, row_serves_at}
use Rattle.chr_core.proofs.run_core.Core.serving.Goals as goal
use Rattle.chr_core.proofs.run_core.Core.serving.Goals.{in-Some+else-row_serves, in_default}

pub returns-then-row_serves-clause-some : goal.returns-then-row_serves-clause-some
returns-then-row_serves-clause-some g c =
    let core = c.args.self.now in
    let p = g.J.RunName.rules in
    let m = machine_view core.machine in
    let asked = c.in_ok-asked.asked in
    row_serves_at m.names p (query_view core.query) m core.at (map event_view core.events.items) (core_in core) core.stands refl (task_view c.args.task) c.requires (atom_view asked.sym asked.args.now) asked.touches asked.own c.in_ok-asked.ensures.some
    c.in-Some.position (sym (c.row.ensures ∙ rw c.in_ok-positions.was at c.positions.ensures.row) ∙ c.in-Some.is) (sym c.row_serves.ensures ∙ c.if-row_serves.true)

pub returns-clause-some : goal.returns-clause-some
returns-clause-some g c =
    let core = c.args.self.now in
    let p = g.J.RunName.rules in
    let m = machine_view core.machine in
    let asked = c.in_ok-asked.asked in
    guest_found m.names p (query_view core.query) m core.at (map event_view core.events.items) (core_in core) core.stands refl (task_view c.args.task) c.requires (atom_view asked.sym asked.args.now) asked.touches asked.own c.in_ok-asked.ensures.some
    c.guest_serving.result (subst (λ (ns : List ℕ). IfSome c.guest_serving.result (λ n. GuestPasses (core_in core) ns (resolved_atom m.base.subst (atom_view asked.sym asked.args.now)) asked.own asked.touches n)) (c.guests.ensures ∙ rw c.in_ok-positions.was at c.positions.ensures.guests) c.guest_serving.ensures.some)

pub returns-clause-none : goal.returns-clause-none
returns-clause-none g c =
    let core = c.args.self.now in
    let p = g.J.RunName.rules in
    let m = machine_view core.machine in
    let asked = c.in_ok-asked.asked in
    let rows : (n : ℕ) → row_in core.answers (task_view c.args.task) ≡ Some n → row_passes (core_in core) asked.touches n ≡ false = λ n is. elim c.match-row.branch [
      | in-Some+else-row_serves w ↦ (let same : w.in-Some.position ≡ n = (let a = w.in-Some.is in let b = c.row.ensures ∙ rw c.in_ok-positions.was at c.positions.ensures.row ∙ is in cc) in
          subst (λ (k : ℕ). row_passes (core_in core) asked.touches k ≡ false) same (sym w.row_serves.ensures ∙ w.if-row_serves.false))
      | in_default w ↦ (let a = w.in_default.is in let b = c.row.ensures ∙ rw c.in_ok-positions.was at c.positions.ensures.row ∙ is in cc)
    ] in
    none_found m.names p (query_view core.query) m core.at (map event_view core.events.items) (core_in core) core.stands refl (task_view c.args.task) c.requires (atom_view asked.sym asked.args.now) asked.touches asked.own c.in_ok-asked.ensures.some
    c.guest_serving.result rows (subst (λ (ns : List ℕ). IfNone c.guest_serving.result (list_any (guest_passes (core_in core) (resolved_atom m.base.subst (atom_view asked.sym asked.args.now)) asked.own asked.touches) ns ≡ false)) (c.guests.ensures ∙ rw c.in_ok-positions.was at c.positions.ensures.guests) c.guest_serving.ensures.none)
