use Rattle.std.proofs.Common.{[], ◌∷◌, subst, sym}
use Rattle.chr_semantics.specs.Changes.{Store}
use Rattle.chr_semantics.specs.Search.{atom_of}
use Rattle.chr_rules.specs.ProgramView.{rules_of}
use Rattle.chr_store.specs.HistoryView.{entries_view}
use Rattle.chr_store.specs.Rows.{row_atom}
use Rattle.chr_store.specs.StoreView.{store_view}
use Rattle.chr_find.specs.TableView.{atom_at}
use Rattle.chr_base.specs.Agreement.{Agrees}
use Rattle.chr_base.specs.BaseView.{base_view}
use Rattle.chr_base.specs.Lending.{Lends}
use Rattle.chr_base.proofs.Ascending.{ascends_agrees}
use Rattle.chr_base.proofs.Bookmarked.{ahead_left}
use Rattle.chr_base.proofs.Fires.{agrees_removed, standing_there}
use Rattle.chr_base.proofs.Lent.{lends_removed}
use Rattle.chr_base.proofs.base.Base.take_out.Goals as goal

pub invariant_of-self : goal.invariant_of-self
invariant_of-self g c =
    let b = c.args.self.now in
    let id = c.args.leaving.id.0 in
    let there = standing_there b.bindings.subst (atom_at b.table id) (atom_of (store_view b.store).rows id) (row_atom c.args.leaving.row) (b.agrees.shown id) c.requires.there in
    let less = c.remove.ensures.store in
    record {
      agrees = subst (λ (m : Store). Agrees m (entries_view b.history) b.bindings.subst (atom_at c.remove-2.new.self) b.is_stale) (sym less)
          (agrees_removed _ _ _ _ _ b.agrees id there.0 there.1 (atom_at c.remove-2.new.self) c.remove-2.ensures.atoms);
      lends = subst (λ (m : Store). Lends m (entries_view b.history) b.firings) (sym less) (lends_removed _ _ _ _ _ b.agrees b.firings b.lends id there.0 there.1);
      ahead = ahead_left (rules_of b.program.now) (base_view b) (id ∷ []) b.bindings.len (ascends_agrees _ _ _ _ _ b.agrees) _ b.bookmarks.items (λ k. record (base_view b) { store = less k }) b.ahead;
    }
