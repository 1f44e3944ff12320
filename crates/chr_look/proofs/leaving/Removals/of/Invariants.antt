use Rattle.std.proofs.Common.{◌≡◌, ◌≤◌, List, drop, length, ℕ}
use Rattle.std.specs.Prelude.{option_and_then, slice_get}
use Rattle.chr_rules.specs.ProgramView.{rules_of}
use Rattle.chr_store.specs.HistoryView.{firings_view}
use Rattle.chr_look.specs.Leavings.{place_at}
use Rattle.chr_look.specs.Logs.{removal}
use Rattle.chr_look.proofs.leaving.Removals.of.Given as goal

-- the firings from the place on were looked at
abbrev pub invariant-loop-place : goal.invariant-loop-place
invariant-loop-place g l = record {
  within : l.place ≤ length l.entries;
  looked : (i : ℕ) (ks : List ℕ) → length ks ≡ length (firings_view l.entries) → removal (rules_of l.program) (drop l.place ks) (drop l.place (firings_view l.entries)) i ≡ option_and_then (slice_get ks) (place_at l.places.items i);
}

abbrev pub decreases-loop-place : goal.decreases-loop-place
decreases-loop-place g l = l.place
