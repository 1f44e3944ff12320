use Rattle.std.proofs.Common.{◌≡◌, ℕ, ◌+◌, cond, take}
use Rattle.chr_store.specs.Counts.{count_at, has_stamp, last_at}
use Rattle.chr_store.specs.SlotsView.{rows_in}
use Rattle.chr_store.specs.Waking.{has_symbol_among}
use Rattle.chr_store.proofs.waking.raise_all.Given as goal

-- the symbols of the identities so far are raised
abbrev pub invariant-loop-id : goal.invariant-loop-id
invariant-loop-id g l = record {
  counts : (n : ℕ) → count_at l.stamps.stamps.items n ≡ count_at l.initial.stamps.stamps.items n + cond (has_symbol_among (rows_in l.slots) (take l.id-index l.ids) n) 1 0;
  lasts : (n : ℕ) → last_at l.stamps.stamps.items n ≡ cond (has_symbol_among (rows_in l.slots) (take l.id-index l.ids) n) l.call (last_at l.initial.stamps.stamps.items n);
  kept : (n : ℕ) → has_stamp l.stamps.stamps.items n ≡ has_stamp l.initial.stamps.stamps.items n;
}
