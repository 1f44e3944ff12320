use Rattle.std.proofs.Common.{List, false, refl, subst, ℕ, ◌∙◌, ◌≡◌}
use Rattle.std.specs.List.{list_any}
use Rattle.std.specs.Prelude.{IfNone, IfSome}
use Rattle.chr_semantics.specs.State.{resolved_atom}
use Rattle.chr_find.specs.SnapshotView.{task_view}
use Rattle.chr_machine.specs.MachineView.{machine_view}
use Rattle.chr_machine.specs.Model.{state_in}
use Rattle.chr_rules.specs.RuleView.{query_view}
use Rattle.chr_term.specs.TermView.{atom_view}
use Rattle.chr_core.specs.CoreView.{core_in, events_of}
use Rattle.chr_core.specs.Serving.{GuestPasses, guest_passes}
use Rattle.chr_core.proofs.Good.{good_guest, guest_occurrence, its_occurrence}
use Rattle.chr_core.proofs.run_core.Core.guest_is_good.Goals as goal

pub returns-in-Some : goal.returns-in-Some
returns-in-Some g c =
    let core = c.args.self.now in
    let p = g.J.RunName.rules in
    let m = machine_view core.machine in
    let t = task_view c.args.task in
    let asked = c.in-Some.asked in
    let a = atom_view asked.sym asked.args.now in
    let waiting = c.in-Some.ensures.some in
    let w = guest_occurrence p (state_in m) t c.requires.next c.requires.occurs in
    c.is_some.ensures
    ∙ good_guest m.names p (query_view core.query) m core.at (events_of core) (core_in core) core.stands refl t c.requires.next a w.occ waiting.waits (its_occurrence p (state_in m) t w a waiting.waits)
    asked.touches asked.own waiting c.guest_serving.result
    (subst (λ (ns : List ℕ). IfSome c.guest_serving.result (λ n. GuestPasses (core_in core) ns (resolved_atom m.base.subst a) asked.own asked.touches n)) c.requires.positions c.guest_serving.ensures.some)
    (subst (λ (ns : List ℕ). IfNone c.guest_serving.result (list_any (guest_passes (core_in core) (resolved_atom m.base.subst a) asked.own asked.touches) ns ≡ false)) c.requires.positions c.guest_serving.ensures.none)
