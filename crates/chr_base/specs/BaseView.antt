-- What a `Base` shows.
use Rattle.std.specs.Prelude.{◌≡◌, false}
use Rattle.chr_store.specs.HistoryView.{entries_view}
use Rattle.chr_store.specs.StoreView.{store_view}
use Rattle.chr_find.specs.TableView.{IsSettled}
use Rattle.chr_rules.specs.declared.program.Program.{Program}
use Rattle.chr_base.specs.Model.{BaseModel}
use Rattle.chr_base.specs.declared.base.Base.{Base}

module _ {A : Type 0} where
  abbrev pub base_view : Base A → BaseModel
  base_view b = record { store = store_view b.store; entries = entries_view b.history; subst = b.bindings.subst; next_var = b.bindings.len }

  -- the program
  abbrev pub program_of : Base A → Program A
  program_of b = b.program.now

  -- the table can be searched for what it shows
  pub record IsFresh (b : Base A) : Type 0 where
    pub settled : IsSettled b.table
    pub resolved : b.is_stale ≡ false

  -- it shows the same, and so does its table
  pub record IsSameBase (old new : Base A) : Type 0 where
    pub view : base_view new ≡ base_view old
    pub program : program_of new ≡ program_of old
    pub table : new.table ≡ old.table
    pub stale : new.is_stale ≡ old.is_stale
