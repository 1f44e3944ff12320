use Rattle.std.proofs.Common.{◌≡◌, ◌≤◌, drop, length, min}
use Rattle.std.specs.Prelude.{reverse}
use Rattle.chr_find.specs.TableView.{atom_at}
use Rattle.chr_base.specs.Leaving.{AreStanding, leaving_ids}
use Rattle.chr_base.proofs.base.Base.leaving.Given as goal

abbrev pub invariant-loop-left : goal.invariant-loop-left
invariant-loop-left g l = record {
  within : l.left ≤ length l.ids;
  least : min l.kept (length l.ids) ≤ l.left;
  ids : leaving_ids l.leaving.items ≡ drop l.left l.ids;
  there : AreStanding (atom_at l.self.table) (reverse l.leaving.items);
}

abbrev pub decreases-loop-left : goal.decreases-loop-left
decreases-loop-left g l = l.left
