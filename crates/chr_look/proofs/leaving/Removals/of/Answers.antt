use Rattle.std.proofs.Common.{◌≡◌, ◌<◌, ◌+◌, ◌-◌, List, arith, drop, length, subst, sym, ℕ}
use Rattle.std.specs.Prelude.{option_and_then, slice_get}
use Rattle.chr_rules.specs.ProgramView.{rules_of}
use Rattle.chr_store.specs.HistoryView.{fired_view, firings_view}
use Rattle.chr_look.specs.Leavings.{place_at}
use Rattle.chr_look.specs.Logs.{removal}
use Rattle.chr_look.proofs.Removed.{firing_there, looked_down}
use Rattle.chr_look.proofs.leaving.Removals.of.Goals as goal

pub loop-place-preserved : goal.loop-place-preserved
loop-place-preserved g c =
    let p = rules_of c.args.program.now in
    let h = firings_view c.args.entries.now in
    let n = c.loop-place.place - 1 in
    let one : c.loop-place.place ≡ n + 1 = omega (arith, c.loop-place-test.true) in
    let here : n < length c.args.entries.now = omega (arith, c.loop-place-test.true, c.loop-place.invariant.within) in
    record {
      within = omega (arith, c.loop-place.invariant.within);
      looked = λ i.
          looked_down p h i n (fired_view c.index-entries-place.result) (place_at c.loop-place.places.items i) (place_at c.note_entry.new.places.items i) (firing_there c.args.entries.now n c.index-entries-place.result here c.index-entries-place.is)
          (λ ks l. subst (λ m. removal p (drop m ks) (drop m h) i ≡ option_and_then (slice_get ks) (place_at c.loop-place.places.items i)) one (c.loop-place.invariant.looked i ks l)) (c.in_ok-note_entry.ensures i);
    }
