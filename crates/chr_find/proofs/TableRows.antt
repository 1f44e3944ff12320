-- The constraints of a table after its calls.
use Rattle.std.proofs.Common.{◌≡◌, ◌∙◌, ◌==◌, ℕ, Bool, false, true, cond, List, ap, refl, sym}
use Rattle.std.proofs.lemmas.Bool.{eq-eqb}
use Rattle.chr_store.specs.declared.id.Id.{Id}
use Rattle.std.specs.Prelude.{Option, Some, None, option_map}
use Rattle.chr_semantics.specs.Program.{Atom}
use Rattle.chr_store.specs.Rows.{row_atom}
use Rattle.chr_store.specs.declared.row.Row.{Row}
use Rattle.chr_find.specs.declared.index.Index.{Index}
use Rattle.chr_find.specs.IndexChangeView.{changed_at}
use Rattle.chr_find.specs.PendingIndexView.{AreShown, IsSettled, indexed_atom, row_at}
use Rattle.chr_find.specs.IndexKeys.{IndexKey, held}
use Rattle.chr_find.specs.PlanView.{lookups_of}
use Rattle.chr_find.specs.Shown.{Shows, atom_in}
use Rattle.chr_find.specs.TableView.{atoms_with}
use Rattle.chr_find.specs.declared.bucket.Bucket.TheVariants.{All}
use Rattle.chr_find.specs.declared.index.Change.{Change}
use Rattle.chr_find.specs.declared.pending_index.PendingIndex.{PendingIndex}
use Rattle.chr_find.specs.declared.plan.Plan.{Plan}
use Rattle.chr_find.proofs.ShownRows.{atom_if, shows_change}
use Rattle.chr_find.specs.declared.plan.Lookup.{Lookup}

at_all : (ps : ℕ → List Lookup) (o : Option Atom) → atom_in All ps o ≡ o
at_all ps None = refl
at_all ps (Some a) = refl

abbrev pub out_at : {A : Type 0} → Id → Row A → Change A
out_at id r = record { id = id; row = r; is_there = false }

abbrev pub put_at : {A : Type 0} → Id → Row A → Change A
put_at id r = record { id = id; row = r; is_there = true }

none_at : (i : ℕ) (f : ℕ → Option Atom) → atoms_with f i None i ≡ None
none_at i f = ap (λ (b : Bool). cond b None (f i)) (eq-eqb i i refl)

with_twice : (b : Bool) (x y z : Option Atom) → cond b x (cond b y z) ≡ cond b x z
with_twice true x y z = refl
with_twice false x y z = refl

-- what stands at the places is told by the constraints
module _ {A : Type 0} (n : PendingIndex A) (p : Plan A) (at : IndexKey → Option (Row A)) (f : ℕ → Option Atom) (rows : (q : IndexKey) → row_at n q ≡ at q) (shows : Shows (lookups_of p) at f) where
  pub atoms_are : (i : ℕ) → indexed_atom n i ≡ f i
  atoms_are i =
      ap (option_map row_atom) (rows (record { bucket = All; id = record { 0 = i } }))
      ∙ (shows (record { bucket = All; id = record { 0 = i } }) ∙ at_all (lookups_of p) (f i))

  pub shown_is : n.plan ≡ p → AreShown n
  shown_is plan q =
      ap (option_map row_atom) (rows q)
      ∙ (shows q ∙ (ap (λ (r : Plan A). atom_in q.bucket (lookups_of r) (f q.id.0)) (sym plan) ∙ ap (atom_in q.bucket (lookups_of n.plan)) (sym (atoms_are q.id.0))))

module _ {A : Type 0} (n m : PendingIndex A) where
  -- the same at each place
  module _ (same : (q : IndexKey) → row_at n q ≡ row_at m q) where
    pub atoms_same : (i : ℕ) → indexed_atom n i ≡ indexed_atom m i
    atoms_same i = ap (option_map row_atom) (same (record { bucket = All; id = record { 0 = i } }))

    pub shown_same : n.plan ≡ m.plan → AreShown m → AreShown n
    shown_same plan shown = shown_is n m.plan (row_at m) (indexed_atom m) same shown plan

  -- one change more
  module _ (c : Change A) (rows : (q : IndexKey) → row_at n q ≡ changed_at m.plan c (row_at m) q) (shown : AreShown m) (was : indexed_atom m c.id.0 ≡ atom_if (cond c.is_there false true) (row_atom c.row)) where
    after : Shows (lookups_of m.plan) (changed_at m.plan c (row_at m)) (atoms_with (indexed_atom m) c.id.0 (atom_if c.is_there (row_atom c.row)))
    after = shows_change m.plan c (row_at m) (indexed_atom m) shown was

    pub atoms_changed : (i : ℕ) → indexed_atom n i ≡ atoms_with (indexed_atom m) c.id.0 (atom_if c.is_there (row_atom c.row)) i
    atoms_changed = atoms_are n m.plan (changed_at m.plan c (row_at m)) _ rows after

    pub shown_changed : n.plan ≡ m.plan → AreShown n
    shown_changed = shown_is n m.plan (changed_at m.plan c (row_at m)) _ rows after

  -- a row in the place of another
  module _ (id : Id) (old new : Row A) (rows : (q : IndexKey) → row_at n q ≡ changed_at m.plan (put_at id new) (changed_at m.plan (out_at id old) (row_at m)) q) (shown : AreShown m) (was : indexed_atom m id.0 ≡ Some (row_atom old)) where
    twice : Shows (lookups_of m.plan) (changed_at m.plan (put_at id new) (changed_at m.plan (out_at id old) (row_at m))) (atoms_with (atoms_with (indexed_atom m) id.0 None) id.0 (Some (row_atom new)))
    twice = shows_change m.plan (put_at id new) (changed_at m.plan (out_at id old) (row_at m)) (atoms_with (indexed_atom m) id.0 None) (shows_change m.plan (out_at id old) (row_at m) (indexed_atom m) shown was) (none_at id.0 (indexed_atom m))

    pub atoms_replaced : (i : ℕ) → indexed_atom n i ≡ atoms_with (indexed_atom m) id.0 (Some (row_atom new)) i
    atoms_replaced i = atoms_are n m.plan (changed_at m.plan (put_at id new) (changed_at m.plan (out_at id old) (row_at m))) _ rows twice i ∙ with_twice (i == id.0) (Some (row_atom new)) None (indexed_atom m i)

    pub shown_replaced : n.plan ≡ m.plan → AreShown n
    shown_replaced = shown_is n m.plan (changed_at m.plan (put_at id new) (changed_at m.plan (out_at id old) (row_at m))) _ rows twice

  -- the same entries, where all changes are made
  pub rows_shared : (es : Index A) → ((q : IndexKey) → row_at n q ≡ held es q) → es ≡ m.rows → IsSettled m → (q : IndexKey) → row_at n q ≡ row_at m q
  rows_shared es rows same settled q = rows q ∙ (ap (λ (fs : Index A). held fs q) same ∙ sym (settled q))

module _ {A : Type 0} (n : PendingIndex A) (rows : (q : IndexKey) → row_at n q ≡ None) where
  -- no constraint
  pub atoms_none : (i : ℕ) → indexed_atom n i ≡ None
  atoms_none i = ap (option_map row_atom) (rows (record { bucket = All; id = record { 0 = i } }))

  pub shown_none : AreShown n
  shown_none q = ap (option_map row_atom) (rows q) ∙ ap (atom_in q.bucket (lookups_of n.plan)) (sym (atoms_none q.id.0))
