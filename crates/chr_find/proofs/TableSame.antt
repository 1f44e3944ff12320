-- A table after a change of its lists, or of its newest constraint.
use Rattle.std.proofs.Common.{◌≡◌, ◌∙◌, ◌==◌, ℕ, Option, Some, None, ap, cond, false, sym}
use Rattle.chr_semantics.specs.Program.{Atom}
use Rattle.chr_store.specs.Rows.{row_atom}
use Rattle.chr_store.specs.declared.id.Id.{Id}
use Rattle.chr_store.specs.declared.row.Row.{Row}
use Rattle.chr_find.specs.IndexKeys.{IndexKey}
use Rattle.chr_find.specs.LentKeysView.{AreListed}
use Rattle.chr_find.specs.PendingIndexView.{AreShown, indexed_atom, row_at}
use Rattle.chr_find.specs.Shown.{AreGround}
use Rattle.chr_find.specs.Newest.{IsApart, IsNot, IsThe, with_newest}
use Rattle.chr_find.specs.IndexChangeView.{changed_at}
use Rattle.chr_find.specs.TableView.{IsForAll, atom_at, atoms_with}
use Rattle.chr_find.specs.declared.lent_keys.LentKeys.{LentKeys}
use Rattle.chr_find.specs.declared.pending_index.PendingIndex.{PendingIndex}
use Rattle.chr_find.specs.declared.constraint.Constraint.{Constraint}
use Rattle.chr_find.specs.declared.table.Table.{Table}
use Rattle.chr_find.proofs.GroundRows.{ground_alike}
use Rattle.chr_find.proofs.KeyedTables.{listed_alike}
use Rattle.chr_find.proofs.Newest.{apart_alike, apart_none, apart_without, for_all, newest_alike, newest_gone, newest_listed, newest_none, newest_not, newest_stays}
use Rattle.chr_find.proofs.TableRows.{atoms_changed, atoms_replaced, atoms_same, out_at, put_at, shown_changed, shown_replaced, shown_same}

module _ {A : Type 0} (t : Table A) (n : PendingIndex A) where
  -- the same constraints, wherever they stand
  module _ (newest : Option (Constraint A)) (atoms : (i : ℕ) → with_newest newest (indexed_atom n) i ≡ atom_at t i) where
    pub listed_kept : (d : LentKeys A) → AreListed (atom_at t) d → AreListed (with_newest newest (indexed_atom n)) d
    listed_kept d = listed_alike (atom_at t) (with_newest newest (indexed_atom n)) d atoms

    pub ground_kept : t.may_open ≡ false → AreGround (with_newest newest (indexed_atom n))
    ground_kept none = ground_alike (atom_at t) (with_newest newest (indexed_atom n)) atoms (t.ground none)

  -- the same rows in the lists
  module _ (rows : (q : IndexKey) → row_at n q ≡ row_at t.index q) where
    pub atoms_kept : (i : ℕ) → with_newest t.newest (indexed_atom n) i ≡ atom_at t i
    atoms_kept = newest_alike t.newest (indexed_atom t.index) (indexed_atom n) (atoms_same n t.index rows)

    pub shown_kept : n.plan ≡ t.index.plan → AreShown n
    shown_kept plan = shown_same n t.index rows plan t.shown

    pub apart_kept : IsApart t.newest (indexed_atom n)
    apart_kept = apart_alike t.newest (indexed_atom t.index) (indexed_atom n) (atoms_same n t.index rows) t.apart

  -- the newest constraint among them
  module _ (s : Constraint A) (is : t.newest ≡ Some s) (rows : (q : IndexKey) → row_at n q ≡ changed_at t.index.plan (put_at s.id s.row) (row_at t.index) q) where
    pub atoms_enlisted : (newest : Option (Constraint A)) → newest ≡ None → (i : ℕ) → with_newest newest (indexed_atom n) i ≡ atom_at t i
    atoms_enlisted newest none i = newest_none newest (indexed_atom n) i none ∙ newest_listed t.newest s (indexed_atom t.index) (indexed_atom n) is (atoms_changed n t.index (put_at s.id s.row) rows t.shown (t.apart s is)) i

    pub shown_enlisted : n.plan ≡ t.index.plan → AreShown n
    shown_enlisted plan = shown_changed n t.index (put_at s.id s.row) rows t.shown (t.apart s is) plan

  -- a constraint taken out, which was not the newest
  module _ (id : Id) (r : Row A) (other : IsNot t.newest id.0) (there : atom_at t id.0 ≡ Some (row_atom r)) (rows : (q : IndexKey) → row_at n q ≡ changed_at t.index.plan (out_at id r) (row_at t.index) q) where
    in_lists : indexed_atom t.index id.0 ≡ Some (row_atom r)
    in_lists = sym (newest_not t.newest id.0 (indexed_atom t.index) other) ∙ there

    out_of_lists : (i : ℕ) → indexed_atom n i ≡ atoms_with (indexed_atom t.index) id.0 None i
    out_of_lists = atoms_changed n t.index (out_at id r) rows t.shown in_lists

    pub atoms_out : (i : ℕ) → with_newest t.newest (indexed_atom n) i ≡ atoms_with (atom_at t) id.0 None i
    atoms_out i = newest_alike t.newest (atoms_with (indexed_atom t.index) id.0 None) (indexed_atom n) out_of_lists i ∙ newest_stays t.newest id.0 (indexed_atom t.index) other i

    pub shown_out : n.plan ≡ t.index.plan → AreShown n
    shown_out plan = shown_changed n t.index (out_at id r) rows t.shown in_lists plan

    pub apart_out : IsApart t.newest (indexed_atom n)
    apart_out = apart_without t.newest id.0 (indexed_atom t.index) (indexed_atom n) other out_of_lists t.apart

  -- a row of the lists in the place of another, where they are whole
  module _ (all : IsForAll t) (id : Id) (old new : Row A) (there : atom_at t id.0 ≡ Some (row_atom old)) (rows : (q : IndexKey) → row_at n q ≡ changed_at t.index.plan (put_at id new) (changed_at t.index.plan (out_at id old) (row_at t.index)) q) where
    beside : (i : ℕ) → atom_at t i ≡ indexed_atom t.index i
    beside i = newest_none t.newest (indexed_atom t.index) i (for_all t all)

    pub atoms_over : (i : ℕ) → with_newest t.newest (indexed_atom n) i ≡ atoms_with (atom_at t) id.0 (Some (row_atom new)) i
    atoms_over i =
        newest_none t.newest (indexed_atom n) i (for_all t all)
        ∙ (atoms_replaced n t.index id old new rows t.shown (sym (beside id.0) ∙ there) i ∙ ap (λ (o : Option Atom). cond (i == id.0) (Some (row_atom new)) o) (sym (beside i)))

    pub shown_over : n.plan ≡ t.index.plan → AreShown n
    shown_over plan = shown_replaced n t.index id old new rows t.shown (sym (beside id.0) ∙ there) plan

    pub apart_over : IsApart t.newest (indexed_atom n)
    apart_over = apart_none t.newest (indexed_atom n) (for_all t all)

-- a constraint taken out, which was the newest
pub atoms_gone : {A : Type 0} (t : Table A) (i₀ : ℕ) → IsThe t.newest i₀ → (i : ℕ) → indexed_atom t.index i ≡ atoms_with (atom_at t) i₀ None i
atoms_gone t i₀ the = newest_gone t.newest the.newest i₀ (indexed_atom t.index) the.is the.id t.apart
