use Rattle.std.proofs.Common.{◌≡◌, ◌∙◌, arith, Some, ap, refl, subst, sym, ℕ}
use Rattle.chr_semantics.specs.Changes.{Store, added}
use Rattle.chr_semantics.specs.State.{resolved_atom}
use Rattle.chr_rules.specs.ProgramView.{rules_of}
use Rattle.chr_store.specs.HistoryView.{entries_view}
use Rattle.chr_store.specs.Rows.{row_atom}
use Rattle.chr_store.specs.StoreView.{store_view}
use Rattle.chr_find.specs.TableView.{atom_at, atoms_with}
use Rattle.chr_term.specs.TermView.{atom_over}
use Rattle.chr_base.specs.Agreement.{Agrees}
use Rattle.chr_base.specs.BaseView.{base_view}
use Rattle.chr_base.specs.Lending.{Lends}
use Rattle.chr_base.proofs.Agreements.{absent_there, agrees_added, agrees_same}
use Rattle.chr_base.proofs.Bookmarked.{ahead_added, ahead_same}
use Rattle.chr_base.proofs.Lent.{lends_added}
use Rattle.chr_base.proofs.base.Base.add.Goals as goal

pub invariant_of-self : goal.invariant_of-self
invariant_of-self g c =
    let b = c.args.self.now in
    record {
      agrees = agrees_same _ _ _ _ _ b.agrees (atom_at c.room.new.self) c.room.ensures.same;
      lends = b.lends;
      ahead = b.ahead;
    }

pub same-shared : goal.same-shared
same-shared g c = refl

pub add-requires : goal.add-requires
add-requires g c = c.requires.few

pub invariant_of-self-in-Err-1 : goal.invariant_of-self-in-Err-1
invariant_of-self-in-Err-1 g c =
    let b = c.args.self.now in
    let same = c.in-Err.ensures.err in
    record {
      agrees = subst (λ (m : Store). Agrees m (entries_view b.history) b.bindings.subst (atom_at c.room.new.self) b.is_stale) (sym same)
          (agrees_same _ _ _ _ _ b.agrees (atom_at c.room.new.self) c.room.ensures.same);
      lends = subst (λ (m : Store). Lends m (entries_view b.history) b.firings) (sym same) b.lends;
      ahead = ahead_same (rules_of b.program.now) (base_view b) _ b.bookmarks.items (λ k. record (base_view b) { store = same k }) b.ahead;
    }

pub add-requires-in-Ok-clause-room : goal.add-requires-in-Ok-clause-room
add-requires-in-Ok-clause-room g c = c.in_ok-room.ensures.ok

pub add-requires-in-Ok-clause-absent : goal.add-requires-in-Ok-clause-absent
add-requires-in-Ok-clause-absent g c =
    let b = c.args.self.now in
    let next = (store_view b.store).next_id in
    let none = absent_there _ _ _ _ _ b.agrees next (b.agrees.given next (omega arith)) in
    c.room.ensures.same c.in-Ok.id.0 ∙ (ap (atom_at b.table) c.in-Ok.ensures.id ∙ none)

pub invariant_of-self-in-Ok : goal.invariant_of-self-in-Ok
invariant_of-self-in-Ok g c =
    let b = c.args.self.now in
    let a = atom_over c.args.sym c.args.args.now in
    let next = (store_view b.store).next_id in
    let row : row_atom c.args.row ≡ resolved_atom b.bindings.subst a = c.requires.resolved in
    let more = c.in-Ok.ensures.ok ∙ ap (λ ts. added (store_view b.store) (record { sym = c.args.sym.0; args = ts })) c.in_ok-shared.ensures in
    let same : (i : ℕ) → atom_at c.add-in-Ok.new.self i ≡ atoms_with (atom_at b.table) next (Some (resolved_atom b.bindings.subst a)) i = λ i.
    c.add-in-Ok.ensures.atoms i ∙ (λ k. atoms_with (λ j. c.room.ensures.same j k) (c.in-Ok.ensures.id k) (Some (row k)) i)
    in
    record {
      agrees = subst (λ (m : Store). Agrees m (entries_view b.history) b.bindings.subst (atom_at c.add-in-Ok.new.self) b.is_stale) (sym more)
          (agrees_added _ _ _ _ _ b.agrees a (atom_at c.add-in-Ok.new.self) same);
      lends = subst (λ (m : Store). Lends m (entries_view b.history) b.firings) (sym more) (lends_added _ _ _ _ _ b.agrees b.firings b.lends a);
      ahead = ahead_added (rules_of b.program.now) (base_view b) _ a b.bookmarks.items (λ k. record (base_view b) { store = more k }) b.ahead;
    }
