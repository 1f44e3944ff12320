-- What the search of a table finds, in the definitions.
use Rattle.std.proofs.Common.{◌≡◌, ◌∙◌, ◌≤◌, ℕ, List, ap, arith, length, subst, sym}
use Rattle.std.specs.Prelude.{Option, Some, option_map}
use Rattle.std.proofs.lemmas.List.{drop_all}
use Rattle.chr_semantics.specs.Match as semantics
use Rattle.chr_semantics.specs.Program.{Atom, Head}
use Rattle.chr_semantics.specs.Search.{atom_of}
use Rattle.chr_store.specs.Rows.{row_atom}
use Rattle.chr_store.specs.declared.row.Row.{Row}
use Rattle.chr_find.specs.Joins.{IsQuiet, QuietFrom}
use Rattle.chr_find.specs.PendingIndexView.{IsSettled, indexed_atom}
use Rattle.chr_find.specs.PlanView.{lookups_of}
use Rattle.chr_find.specs.Shown.{IsShown, Rises, atom_in}
use Rattle.chr_find.specs.TableView.{HasRows, IsFor}
use Rattle.chr_find.specs.declared.table.Table.{Table}
use Rattle.chr_find.proofs.OwnRow.{HasOwn, own_rows}

module _ {A : Type 0} where
  -- the entries of a settled table show the constraints of its lists
  pub has_shown : (t : Table A) (rows : List semantics.Row) → IsSettled t.index → Rises rows → ((i : ℕ) → atom_of rows i ≡ indexed_atom t.index i) → IsShown (lookups_of t.index.plan) t.index.rows rows
  has_shown t rows settled up same = record {
    rises = up;
    shows = λ q. ap (option_map row_atom) (sym (settled q)) ∙ (t.shown q ∙ ap (atom_in q.bucket (lookups_of t.index.plan)) (sym (same q.id.0)));
  }

  -- for a constraint that it is ready for, they show rows that have the same join as all its constraints
  pub own_shown : (t : Table A) (own : ℕ) (rows : List semantics.Row) → IsFor own t → HasRows t rows → HasOwn own (indexed_atom t.index) rows
  own_shown t own rows ready has = own_rows t.newest (indexed_atom t.index) own rows ready t.apart has.rises has.same

  -- the row that stands for an identity is its constraint
  pub row_is : (o : Option Atom) (r : Row A) (a : Atom) → Some (row_atom r) ≡ o → o ≡ Some a → row_atom r ≡ a
  row_is o r a e f = some_is (row_atom r) a (e ∙ f)
    where
      some_is : (x y : Atom) → ◌≡◌ {A = Option Atom} (Some x) (Some y) → x ≡ y
      some_is x y e = cc

-- after all heads none is left
pub all_quiet : (rows : List semantics.Row) (heads : List Head) (place own from n : ℕ) → length heads ≤ n → IsQuiet rows heads place own from n
all_quiet rows heads place own from n all k lt = subst (QuietFrom rows place own from k) (sym (drop_all k heads (omega (arith, all, lt)))) tt
