use Rattle.std.proofs.Common.{◌≡◌, ◌≢◌, ◌≤◌, ◌+◌, length}
use Rattle.std.specs.Prelude.{AllPairs, reverse}
use Rattle.std.specs.List.{fold}
use Rattle.chr_semantics.specs.Changes.{removed}
use Rattle.chr_semantics.specs.declared.limits.TheConstants.{MAX_CHANGES}
use Rattle.chr_find.specs.TableView.{HasRoom, atom_at}
use Rattle.chr_base.specs.BaseView.{base_view, program_of}
use Rattle.chr_base.specs.Leaving.{AreStanding, leaving_ids}
use Rattle.chr_base.proofs.base.Base.take_out_all.Given as goal

abbrev pub invariant-loop-next : goal.invariant-loop-next
invariant-loop-next g l = record {
  same : record (base_view l.self) { store = fold removed (base_view l.self).store (leaving_ids l.leaving.items) } ≡ record (base_view l.initial.self) { store = fold removed (base_view l.initial.self).store (leaving_ids l.initial.leaving.items) };
  program : program_of l.self ≡ program_of l.initial.self;
  bookmarks : l.self.bookmarks ≡ l.initial.self.bookmarks;
  few : (base_view l.self).store.changes + length l.leaving.items ≤ MAX_CHANGES;
  room : HasRoom (length l.leaving.items) l.self.table;
  there : AreStanding (atom_at l.self.table) (reverse l.leaving.items);
  different : AllPairs (λ i j. i ≢ j) (leaving_ids l.leaving.items);
}

abbrev pub decreases-loop-next : goal.decreases-loop-next
decreases-loop-next g l = length l.leaving.items
