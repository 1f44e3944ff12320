use Rattle.std.proofs.Common.{[], ◌∷◌, subst, sym}
use Rattle.chr_semantics.specs.Changes.{Entries, Store, entered}
use Rattle.chr_semantics.specs.Search.{atom_of}
use Rattle.chr_semantics.specs.Subst.{Subst}
use Rattle.chr_rules.specs.ProgramView.{rules_of}
use Rattle.chr_store.specs.HistoryView.{entries_view}
use Rattle.chr_store.specs.Rows.{row_atom}
use Rattle.chr_store.specs.StoreView.{store_view}
use Rattle.chr_find.specs.TableView.{atom_at}
use Rattle.chr_base.specs.Agreement.{Agrees}
use Rattle.chr_base.specs.BaseView.{base_view}
use Rattle.chr_base.specs.Lending.{Lends}
use Rattle.chr_base.proofs.Ascending.{ascends_agrees}
use Rattle.chr_base.proofs.Bookmarked.{ahead_fired}
use Rattle.chr_base.proofs.Fires.{agrees_entered, agrees_removed, standing_there}
use Rattle.chr_base.proofs.Lent.{lends_gone}
use Rattle.chr_base.proofs.base.Base.enter_without.Goals as goal

pub invariant_of-self-2 : goal.invariant_of-self-2
invariant_of-self-2 g c =
    let b = c.args.self.now in
    let id = c.args.leaving.id.0 in
    let fired = c.args.fired.now in
    let there = standing_there b.bindings.subst (atom_at b.table id) (atom_of (store_view b.store).rows id) (row_atom c.args.leaving.row) (b.agrees.shown id) c.requires.there in
    let less = c.remove.ensures.store in
    let is = c.in_ok-put.ensures.ok in
    let entries = entered (entries_view b.history) fired.rule fired.ids in
    record {
      agrees = subst (λ (s : Subst). Agrees (store_view c.remove.new.self) (entries_view c.put.new.self) s (atom_at c.remove-2.new.self) b.is_stale) (sym c.fresh.ensures.subst)
          (subst (λ (h : Entries). Agrees (store_view c.remove.new.self) h b.bindings.subst (atom_at c.remove-2.new.self) b.is_stale) (sym is)
          (subst (λ (m : Store). Agrees m entries b.bindings.subst (atom_at c.remove-2.new.self) b.is_stale) (sym less)
          (agrees_removed _ _ _ _ _ (agrees_entered _ _ _ _ _ b.agrees fired.rule fired.ids c.requires.can.alive c.requires.can.is_new) id there.0 there.1 (atom_at c.remove-2.new.self) c.remove-2.ensures.atoms)));
      lends = subst (λ (h : Entries). Lends (store_view c.remove.new.self) h b.firings) (sym is)
          (subst (λ (m : Store). Lends m entries b.firings) (sym less)
          (lends_gone _ _ _ _ _ b.agrees b.firings b.lends fired id there.0 c.requires.can.is_new there.1 c.requires.among));
      ahead = ahead_fired (rules_of b.program.now) (base_view b) (id ∷ []) c.fresh.new.self.len (ascends_agrees _ _ _ _ _ b.agrees) _ fired.rule fired.ids b.bookmarks.items
          (λ k. record { store = less k; entries = is k; subst = c.fresh.ensures.subst k; next_var = c.fresh.new.self.len })
          b.ahead;
    }
