use Rattle.std.proofs.Common.{◌∙◌, subst, sym}
use Rattle.std.proofs.lemmas.Result.{on_ok_weaker}
use Rattle.chr_find.specs.TableView.{IsForAll, IsKeyed, IsSettled}
use Rattle.chr_base.proofs.base.Base.begin_sharing.Goals as goal

pub returns-clause-ok : goal.returns-clause-ok
returns-clause-ok g c =
    let same = c.keep_firings.ensures.same in
    let whole = c.keep_keys.ensures.whole in
    on_ok_weaker c.keep_firings.result
    (λ kept. record {
      fresh = record { settled = subst IsSettled (sym same.table) whole.settled; resolved = same.stale ∙ c.in_ok-freshen.ensures.fresh.resolved };
      all = subst IsForAll (sym same.table) whole.all;
      keyed = subst IsKeyed (sym same.table) c.in_ok-keep_keys.ensures.ok;
      firings = kept;
    })
    c.keep_firings.ensures.ok
