use Rattle.std.proofs.Common.{◌∙◌, ◌||◌, Bool, ap}
use Rattle.chr_semantics.specs.Search.{fired_before}
use Rattle.chr_store.specs.HistoryView.{entries_view}
use Rattle.chr_store.specs.StoreView.{store_view}
use Rattle.chr_find.specs.ScopeView.{entries_kept}
use Rattle.chr_find.proofs.snapshot_taking.firings_taken.Goals as goal

pub returns : goal.returns
returns g c = λ r ids. c.in_ok-add_firings.ensures r ids ∙ ap (λ (b : Bool). b || fired_before (entries_kept c.args.scope (store_view c.args.store.now).rows (entries_view c.args.history.now).list) r ids) (c.new-firings.ensures r ids)
