use Rattle.std.proofs.Common.{[], subst, sym}
use Rattle.chr_semantics.specs.Changes.{Entries}
use Rattle.chr_semantics.specs.Subst.{Subst}
use Rattle.chr_rules.specs.ProgramView.{rules_of}
use Rattle.chr_store.specs.HistoryView.{entries_view}
use Rattle.chr_store.specs.StoreView.{store_view}
use Rattle.chr_find.specs.TableView.{atom_at}
use Rattle.chr_base.specs.Agreement.{Agrees}
use Rattle.chr_base.specs.BaseView.{base_view}
use Rattle.chr_base.specs.Lending.{Lends}
use Rattle.chr_base.proofs.Ascending.{ascends_agrees}
use Rattle.chr_base.proofs.Bookmarked.{ahead_fired}
use Rattle.chr_base.proofs.Fires.{agrees_entered}
use Rattle.chr_base.proofs.Lent.{lends_noted}
use Rattle.chr_base.proofs.base.Base.enter.Goals as goal

pub invariant_of-self-2 : goal.invariant_of-self-2
invariant_of-self-2 g c =
    let b = c.args.self.now in
    let m = store_view b.store in
    let fired = c.args.fired.now in
    let is = c.in_ok-put.ensures.ok in
    record {
      agrees = subst (λ (s : Subst). Agrees m (entries_view c.put.new.self) s (atom_at b.table) b.is_stale) (sym c.fresh.ensures.subst)
          (subst (λ (h : Entries). Agrees m h b.bindings.subst (atom_at b.table) b.is_stale) (sym is)
          (agrees_entered _ _ _ _ _ b.agrees fired.rule fired.ids c.requires.can.alive c.requires.can.is_new));
      lends = subst (λ (h : Entries). Lends m h c.note.new.firings) (sym is) (lends_noted _ _ _ _ _ b.agrees b.firings b.lends fired c.note.new.firings c.requires.can.is_new c.note.ensures);
      ahead = ahead_fired (rules_of b.program.now) (base_view b) [] c.fresh.new.self.len (ascends_agrees _ _ _ _ _ b.agrees) _ fired.rule fired.ids b.bookmarks.items
          (λ k. record { store = m; entries = is k; subst = c.fresh.ensures.subst k; next_var = c.fresh.new.self.len })
          b.ahead;
    }
