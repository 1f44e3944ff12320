-- The stamps of the rule and of the heads so far are added up, and those of the heads left are still to be.
use Rattle.std.proofs.Common.{◌≡◌, ◌*◌, ◌+◌, ◌^◌, ◌≤◌, drop}
use Rattle.chr_semantics.specs.Touch.{rule}
use Rattle.chr_store.specs.HistoryView.{entries_view}
use Rattle.chr_store.specs.StoreView.{store_view}
use Rattle.chr_laws.specs.Sums.{sum_of}
use Rattle.chr_core.specs.Marks.{mark_stamp}
use Rattle.chr_core.proofs.Heads.{head_marks}
use Rattle.chr_core.proofs.stamps.rule_touches.Given as goal

abbrev pub invariant-loop-head : goal.invariant-loop-head
invariant-loop-head g l = (let f = mark_stamp (store_view l.store) (entries_view l.history) in record {
  whole : f (rule l.number) + sum_of f (head_marks l.rule.heads.items) ≡ l.sum + sum_of f (head_marks (drop l.head-index l.rule.heads.items));
  bound : l.sum ≤ (l.head-index + 1) * 2 ^ 64;
})
