use Rattle.std.proofs.Common.{◌∙◌, ◌&&◌, Bool, List, ap, sym, ℕ}
use Rattle.chr_semantics.specs.Match as semantics
use Rattle.chr_semantics.specs.Search.{History as Entries, fired_before, live_entries}
use Rattle.chr_store.specs.HistoryView.{entries_view}
use Rattle.chr_store.specs.StoreView.{store_view}
use Rattle.chr_find.specs.Firings.{firing, is_in}
use Rattle.chr_find.specs.PendingFiringsView.{with_firing}
use Rattle.chr_find.specs.ScopeView.{keeps_rule}
use Rattle.chr_keys.proofs.Changes.{none_left}
use Rattle.chr_find.proofs.FiringNotes.{firing_alike}
use Rattle.chr_find.proofs.TakenFirings.{all_kept, fired_live, live_all}
use Rattle.chr_find.proofs.pending_firings.PendingFirings.of.Goals as goal

pub returns : goal.returns
returns g c = λ r ids.
    let rows : List semantics.Row = (store_view c.args.store.now).rows in
    let list : Entries = (entries_view c.args.history.now).list in
    let firings = c.in_ok-firings_taken.field-0 in
    none_left with_firing firing_alike c.new.result.left (is_in firings.all) (firing r ids) c.new.ensures
    ∙ (c.in_ok-firings_taken.ensures r ids
    ∙ (ap (λ (h : Entries). fired_before h r ids) (all_kept (λ (f : ℕ × List ℕ). keeps_rule c.whole.result f.0) (live_entries rows list) (λ f. c.whole.ensures.rules f.0))
    ∙ (fired_live rows list r ids ∙ ap (λ (b : Bool). fired_before list r ids && b) (sym (live_all rows ids)))))
