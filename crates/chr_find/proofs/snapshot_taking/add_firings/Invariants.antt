use Rattle.std.proofs.Common.{◌≡◌, ◌||◌, List, ℕ, take}
use Rattle.chr_semantics.specs.Search.{fired_before}
use Rattle.chr_store.specs.HistoryView.{firings_view}
use Rattle.chr_store.specs.StoreView.{store_view}
use Rattle.chr_find.specs.Firings.{fired_in}
use Rattle.chr_find.specs.ScopeView.{entries_kept}
use Rattle.chr_find.proofs.snapshot_taking.add_firings.Given as goal

abbrev pub invariant-loop-entry : goal.invariant-loop-entry
invariant-loop-entry g l =
    (r : ℕ) (ids : List ℕ) → fired_in l.firings r ids ≡ (fired_in l.fn.firings r ids || fired_before (entries_kept l.scope (store_view l.store).rows (firings_view (take l.entry-index l.entry-items))) r ids)
