-- What is taken of a state.
use Rattle.std.specs.Prelude.{◌≡◌, ℕ, List}
use Rattle.chr_semantics.specs.Match as semantics
use Rattle.chr_semantics.specs.Search.{History as Entries, atom_of, fired_before}
use Rattle.chr_semantics.specs.State.{State}
use Rattle.chr_semantics.specs.Subst.{Subst}
use Rattle.chr_store.specs.HistoryView.{entries_view}
use Rattle.chr_store.specs.StoreView.{store_view}
use Rattle.chr_store.specs.declared.history.History.{History}
use Rattle.chr_store.specs.declared.store.Store.{Store}
use Rattle.chr_find.specs.Firings.{fired_in}
use Rattle.chr_find.specs.ScopeView.{entries_kept, rows_kept}
use Rattle.chr_find.specs.TableView.{IsKeyed, IsWhole, atom_at}
use Rattle.chr_find.specs.declared.firings.Firings.{Firings}
use Rattle.chr_find.specs.declared.scope.Scope.{Scope}
use Rattle.chr_find.specs.declared.table.Table.{Table}

-- a state with this store, substitution and history
pub record IsStateOf {A : Type 0} (c : Store A) (m : Subst) (h : History A) (s : State) : Type 0 where
  pub store : s.store ≡ (store_view c).rows
  pub subst : s.subst ≡ m
  pub history : s.history ≡ (entries_view h).list
  pub next : s.next_id ≡ (store_view c).next_id

-- a table of the constraints that are in the scope
pub record IsTakenOf {A : Type 0} (scope : Scope A) (m : Subst) (rows : List semantics.Row) (t : Table A) : Type 0 where
  pub whole : IsWhole t
  pub keyed : IsKeyed t
  pub atoms : (i : ℕ) → atom_at t i ≡ atom_of (rows_kept scope m rows) i

-- the firings that are in the scope and whose constraints all live
abbrev pub AreTakenOf : {A : Type 0} → Scope A → List semantics.Row → Entries → Firings A → Type 0
AreTakenOf scope rows h f = (r : ℕ) (ids : List ℕ) → fired_in f r ids ≡ fired_before (entries_kept scope rows h) r ids
