-- None of the answers that the loop has passed serves.
use Rattle.std.proofs.Common.{◌≡◌, drop}
use Rattle.std.specs.List.{list_any}
use Rattle.chr_semantics.specs.State.{resolved_atom}
use Rattle.chr_term.specs.TermView.{atom_view}
use Rattle.chr_core.specs.CoreView.{core_in, machine_in}
use Rattle.chr_core.specs.Serving.{guest_passes}
use Rattle.chr_core.proofs.run_core.Core.guest_serving.Given as goal

abbrev pub invariant-loop-position : goal.invariant-loop-position
invariant-loop-position g l =
    let passes = guest_passes (core_in l.self) (resolved_atom (machine_in l.self).base.subst (atom_view l.asked.sym l.asked.args.now)) l.asked.own l.asked.touches in
    list_any passes l.positions ≡ list_any passes (drop l.position-index l.positions)
