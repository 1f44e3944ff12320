use Rattle.std.proofs.Common.{◌≡◌, Option, ℕ, take}
use Rattle.chr_keys.specs.PendingKeysView.{IsSettled, is_listed}
use Rattle.chr_semantics.specs.Keys as semantics
use Rattle.chr_semantics.specs.Search.{atom_of}
use Rattle.chr_find.specs.LentKeysView.{is_keyed_at}
use Rattle.chr_find.specs.Rebinding.{standing_rows}
use Rattle.chr_find.proofs.lent_keys.LentKeys.of_rows.Given as goal

abbrev pub invariant-loop-standing : goal.invariant-loop-standing
invariant-loop-standing g l = IsSettled l.keys × ((f : ℕ) (k : Option semantics.Key) (i : ℕ) → is_listed l.keys f k i ≡ is_keyed_at (atom_of (standing_rows (take l.standing-index l.rows)) i) f k)
