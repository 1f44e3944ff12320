use Rattle.std.proofs.Common.{ap, refl, sym, ◌∙◌}
use Rattle.chr_semantics.specs.Program.{occurrence}
use Rattle.chr_semantics.specs.Touch.{footprint_of}
use Rattle.chr_find.specs.SnapshotView.{guest_view}
use Rattle.chr_laws.specs.Sums.{sum_of}
use Rattle.chr_core.specs.Marks.{mark_stamp}
use Rattle.chr_core.proofs.run_core.Core.asked_of_guest.Goals as goal

pub returns-clause-some : goal.returns-clause-some
returns-clause-some g c =
    let guest = c.in_ok-guest.guest in
    record {
      waits = sym c.guest.ensures ∙ ap guest_view c.in_ok-guest.was;
      touches_are = c.touches.ensures ∙ (λ k. sum_of (mark_stamp (c.store-store.ensures k) (c.history-history.ensures k)) (footprint_of (occurrence (c.program-program.ensures.rules k) guest.0.0 c.args.occurrence)));
      own_are = refl;
    }
