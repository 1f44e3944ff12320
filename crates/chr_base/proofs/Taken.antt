-- What is taken of a base is what the states that it stands for have.
use Rattle.std.proofs.Common.{◌≡◌, ◌∙◌, ◌&&◌, ◌||◌, ℕ, Bool, true, List, [], ◌∷◌, Option, Some, ap, map, refl, subst, sym}
use Rattle.std.specs.List.{list_all}
use Rattle.std.specs.Prelude.{nat_le, option_map}
use Rattle.chr_semantics.proofs.Lists.{list_all-more}
use Rattle.chr_semantics.specs.Match.{Row}
use Rattle.chr_semantics.specs.Program.{Atom}
use Rattle.chr_semantics.specs.Search.{History, fired_before, has_number, ids_of, live_entries}
use Rattle.chr_semantics.specs.Snapshot.{snapshot_for}
use Rattle.chr_semantics.specs.State.{State, resolved_atom, rows}
use Rattle.chr_semantics.specs.Subst.{Subst}
use Rattle.chr_semantics.specs.Tasks.{Task}
use Rattle.chr_find.specs.PendingFiringsView.{noted_in}
use Rattle.chr_find.specs.SnapshotView.{IsTaken}
use Rattle.chr_find.specs.SnapshotView.{is_not_dead as is_not_dead_in}
use Rattle.chr_find.specs.TableView.{HasRows}
use Rattle.chr_find.specs.declared.pending_firings.PendingFirings.{PendingFirings}
use Rattle.chr_find.proofs.TakenFirings.{fired_live, live_all}
use Rattle.chr_base.specs.Agreement.{is_alive, is_not_dead}
use Rattle.chr_base.specs.BaseView.{IsFresh, base_view}
use Rattle.chr_base.specs.Lending.{AreLent}
use Rattle.chr_base.specs.Model.{rows_of}
use Rattle.chr_base.specs.Sharing.{IsStateOf}
use Rattle.chr_base.specs.declared.base.Base.{Base}
use Rattle.chr_base.proofs.Lent.{all_but}
use Rattle.chr_base.proofs.Searched.{table_lives, table_rows}
use Rattle.chr_find.proofs.FiredHistory.{both_true}

ids_resolved : (s : State) (rs : List Row) → ids_of (map (λ (r : Row). (r.0, resolved_atom s.subst r.1)) rs) ≡ ids_of rs
ids_resolved s [] = refl
ids_resolved s (r ∷ rs) = ap (λ (l : List ℕ). r.0 ∷ l) (ids_resolved s rs)

module _ {A : Type 0} (b : Base A) (fresh : IsFresh b) (f : PendingFirings A) (kept : b.firings ≡ Some f) (s : State) (of : IsStateOf (base_view b) s) where
  rows_are : rows_of (base_view b) ≡ rows s
  rows_are = sym (λ k. map (λ (r : Row). (r.0, resolved_atom (of.subst k) r.1)) (of.store k))

  lent : AreLent (base_view b).store (base_view b).entries (noted_in f)
  lent = b.lends f kept

  -- an entry with an identity that is yet to come is none, and the others live
  entry_lives : (r : ℕ) (ids : List ℕ) → list_all (is_not_dead (base_view b).store) ids ≡ true → fired_before (base_view b).entries.list r ids ≡ true → list_all (is_alive (base_view b).store) ids ≡ true
  entry_lives r ids live e = all_but (is_alive (base_view b).store) (base_view b).store.next_id ids live (b.agrees.entered r ids e)

  fired_are : (r : ℕ) (ids : List ℕ) → list_all (is_not_dead_in b.table (base_view b).store.next_id) ids ≡ true → fired_before (live_entries (rows s) s.history) r ids ≡ noted_in f r ids
  fired_are r ids given =
      let live : list_all (is_not_dead (base_view b).store) ids ≡ true =
      list_all-more (is_not_dead_in b.table (base_view b).store.next_id) (is_not_dead (base_view b).store) ids (λ i e. ap (λ (w : Bool). w || nat_le (base_view b).store.next_id i) (sym (table_lives b fresh i)) ∙ e) given
      in
      fired_live (rows s) s.history r ids
      ∙ ap (λ (h : History). fired_before h r ids && list_all (has_number (ids_of (rows s))) ids) of.history
      ∙ ap (λ (l : List ℕ). fired_before (base_view b).entries.list r ids && list_all (has_number l) ids) (ids_resolved s s.store ∙ ap ids_of of.store)
      ∙ ap (λ (w : Bool). fired_before (base_view b).entries.list r ids && w) (sym (live_all (base_view b).store.rows ids))
      ∙ both_true (fired_before (base_view b).entries.list r ids) (list_all (is_alive (base_view b).store) ids) (entry_lives r ids live)
      ∙ sym (lent r ids live)

  pub taken_is : (ts us : List Task) (g : Option Atom) (h : Option Atom) → us ≡ ts → h ≡ option_map (resolved_atom (base_view b).subst) g → IsTaken b.table (noted_in f) (base_view b).store.next_id us h (snapshot_for s ts g)
  taken_is ts us g h tasks guest = record {
    rows = subst (HasRows b.table) rows_are (table_rows b fresh);
    history = fired_are;
    next = of.next;
    tasks = sym tasks;
    guest = ap (λ (m : Subst). option_map (resolved_atom m) g) of.subst ∙ sym guest;
  }
