use Rattle.std.proofs.Common.{◌∙◌}
use Rattle.chr_store.specs.HistoryView.{entries_view}
use Rattle.chr_store.specs.StoreView.{store_view}
use Rattle.chr_find.specs.PendingFiringsView.{noted_in}
use Rattle.chr_base.proofs.Lent.{lends_these, lent_begun}
use Rattle.chr_base.proofs.base.Base.keep_firings.Goals as goal

pub invariant_of-self-in-None : goal.invariant_of-self-in-None
invariant_of-self-in-None g c =
    let b = c.args.self.now in
    let f = c.settle-in-None.new.self in
    record {
      agrees = b.agrees;
      lends = lends_these (store_view b.store) (entries_view b.history) f
          (lent_begun (store_view b.store) (entries_view b.history) _ _ _ b.agrees (noted_in f) (λ r ids. c.settle-in-None.ensures.same r ids ∙ c.in_ok-firings-in-None.ensures r ids));
      ahead = b.ahead;
    }
