use Rattle.std.proofs.Common.{◌∙◌, ap, arith, refl, sym}
use Rattle.std.specs.Prelude.{option_map}
use Rattle.chr_semantics.specs.State.{resolved_atom}
use Rattle.chr_semantics.specs.Subst.{Subst}
use Rattle.chr_find.specs.SnapshotView.{guest_view}
use Rattle.chr_find.proofs.TakenSnapshots.{taken_firings, taken_free, taken_is, whole_entries, whole_rows}
use Rattle.chr_find.proofs.snapshot.Snapshot.take.Goals as goal

pub invariant_of-result : goal.invariant_of-result
invariant_of-result g c =
    let t = c.in_ok-table.ensures.table in
    record {
      whole = t.whole;
      keyed = t.keyed;
      free = λ i le. taken_free c.args.store.now c.args.bindings.now.subst c.args.history.now c.whole-scope.result c.in_ok-table.table t i (omega (arith, c.next.ensures, le));
    }

pub returns : goal.returns
returns g c = λ s of.
    let st = c.args.store.now in
    let m = c.args.bindings.now.subst in
    let h = c.args.history.now in
    let t = c.in_ok-table.table in
    let entries = whole_entries st m h s of c.whole-scope.result c.whole-scope.ensures.rules in
    record {
      shown = taken_is st m h c.whole-scope.result t c.in_ok-table.ensures.table c.in_ok-table.firings c.in_ok-table.ensures.firings c.next.result.0 _ _ _ (whole_rows st m h s of c.whole-scope.result c.whole-scope.ensures.rows) entries (of.next ∙ sym c.next.ensures) refl
          (ap (λ (u : Subst). option_map (resolved_atom u) (guest_view c.args.guest)) of.subst ∙ sym c.in_ok-guest.ensures);
      firings = taken_firings st m h c.whole-scope.result t c.in_ok-table.ensures.table c.in_ok-table.firings c.in_ok-table.ensures.firings _ entries;
    }
