use Rattle.std.proofs.Common.{◌≡◌, take, true}
use Rattle.std.specs.List.{list_all}
use Rattle.std.specs.Prelude.{is_some}
use Rattle.chr_semantics.specs.Search.{atom_of}
use Rattle.chr_store.specs.Numbers.{numbers}
use Rattle.chr_store.specs.StoreView.{store_view}
use Rattle.chr_find.proofs.snapshot_taking.all_live.Given as goal

abbrev pub invariant-loop-id : goal.invariant-loop-id
invariant-loop-id g l = list_all (λ i. is_some (atom_of (store_view l.store).rows i)) (numbers (take l.id-index l.ids)) ≡ true
